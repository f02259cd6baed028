-- What is changed in a heap is changed in the heap with the bits in flight in place; and wrapper lists only grow, by
-- cells that are new.
use Rattle.std.proofs.Common.{◌≡◌, ◌⊎◌, ◌<◌, ◌≤◌, ◌+◌, ◌++◌, ◌∷◌, ◌==◌, ℕ, zero, suc, Bool, true, false, List, []}
use Rattle.std.proofs.Common.{length, Option, Some, None, is_some, slice_get, inl, inr, refl, sym, ap, ◌∙◌, arith}
use Rattle.std.proofs.Common.{if◌then◌else◌}
use Rattle.std.specs.Option.{option_map}
use Rattle.std.proofs.lemmas.Bool.{cases_eq}
use Rattle.std.proofs.lemmas.Option.{slice_get_within}
use Rattle.gz_names.specs.declared.commands.Kind.{Kind}
use Rattle.gz_names.specs.declared.numbers.CompNo.{CompNo}
use Rattle.gz_names.specs.declared.numbers.Place.{Place}
use Rattle.gz_names.specs.declared.replies.Reply.{Reply}
use Rattle.cell_bits.specs.declared.bits.Bits.{Bits}
use Rattle.cell_bits.specs.declared.bits.Colour.TheVariants as colour
use Rattle.arena_table.specs.Cells.{CellState}
use Rattle.wrappers.specs.WrapperMaps.{WrappersState, list_of}
use Rattle.heap_core.specs.declared.plans.Change.{Change}
use Rattle.heap_core.specs.declared.plans.Change.TheVariants as change
use Rattle.heap_core.specs.Shape.{ArenaShape, IsPresent, Shape, cell_of, is_prepared, out_in, out_of}
use Rattle.heap_core.specs.Heap.{HeapState, colour_in, colour_of, flown_or, joined}
use Rattle.heap_core.specs.Changes.{Makes, MakesWrapper, Writes}
use Rattle.heap_core.specs.Effects.{HoldsWrapper, MakesHeld}
use Rattle.heap_core.specs.Plans.{ChangesBy}
use Rattle.barriers.specs.Spreading.{Covers}
use Rattle.barriers.proofs.Flying.{flown_get, flown_length, flown_there, none_flown}
use Rattle.zone_edges.specs.Looks.{wrapper_at}

-- the colour of a place whose arena is not in flight
own_seen : (h : HeapState) (flown : ℕ → Option Bits) (y : Place) → flown y.0 ≡ None
    → colour_of (joined h flown) y ≡ colour_of h y
own_seen h flown y none =
    ap (λ (o : Option Bits). colour_in o y.1) (flown_get flown h.colours y.0 0 y.0 (omega arith)
    ∙ go (slice_get h.colours y.0))
  where
    go : (o : Option Bits) → option_map (flown_or (flown y.0)) o ≡ o
    go None = refl
    go (Some b) = ap (λ (f : Option Bits). Some (flown_or f b)) none

-- an arena that is out is among those that are made
out_within : (s : Shape) (a : ℕ) → is_some (out_of s a) ≡ true → a < length s.arenas
out_within s a out = go (slice_get s.arenas a) refl out
  where
    go : (o : Option ArenaShape) → slice_get s.arenas a ≡ o → is_some (out_in o) ≡ true → a < length s.arenas
    go None e out = cc out
    go (Some arena) e out = slice_get_within s.arenas a arena e

module _ (old : HeapState) (flown : ℕ → Option Bits) (covers : Covers old.shape flown)
    (sized : length old.colours ≡ length old.shape.arenas) where
  -- a place whose colour is as it was
  seen_same : (new : HeapState) (y : Place) → length old.colours ≤ length new.colours
      → colour_of new y ≡ colour_of old y → colour_of (joined new flown) y ≡ colour_of (joined old flown) y
  seen_same new y longer same = go (flown y.0) refl
    where
      go : (o : Option Bits) → flown y.0 ≡ o → colour_of (joined new flown) y ≡ colour_of (joined old flown) y
      go None e = own_seen new flown y e ∙ (same ∙ sym (own_seen old flown y e))
      go (Some b) e =
          let within : y.0 < length old.shape.arenas =
          out_within old.shape y.0 (sym (covers y.0) ∙ ap (λ (o : Option Bits). is_some o) e) in
          ap (λ (o : Option Bits). colour_in o y.1)
          (flown_there new flown y.0 b (omega (arith, within, sized, longer)) e
          ∙ sym (flown_there old flown y.0 b (omega (arith, within, sized)) e))

  writes_joined : (p : Place) (f : ℕ) (v : Option Place) (new : HeapState) → Writes old p f v new
      → Writes (joined old flown) p f v (joined new flown)
  writes_joined p f v new w = record {
    rest = ap (λ (h : HeapState). joined h flown) w.rest;
    sized = w.sized;
    zones = w.zones;
    outs = w.outs;
    cells = w.cells;
    stored = w.stored;
    whole = w.whole;
  }

  makes_joined : (zone : ℕ) (p : Place) (cell : CellState) (new : HeapState) → Makes old zone p cell new
      → Makes (joined old flown) zone p cell (joined new flown)
  makes_joined zone p cell new m = record {
    rest = ap (λ (h : HeapState). joined h flown) m.rest;
    place_is = m.place_is;
    free = m.free;
    grown = m.grown;
    coloured = flown_length flown 0 new.colours ∙ m.coloured;
    zone_is = m.zone_is;
    below = m.below;
    zones = m.zones;
    outs = m.outs;
    in_place = m.in_place;
    cells = m.cells;
    stored = m.stored;
    whole = m.whole;
    born = own_seen new flown p own ∙ (m.born
        ∙ ap (λ c. if is_prepared old.shape zone then c else colour.Black) (sym (own_seen old flown p own)));
    colours = λ q other. seen_same new q longer (m.colours q other);
  }
    where
      own : flown p.0 ≡ None
      own = none_flown (flown p.0) (covers p.0 ∙ ap (λ (o : Option Bits). is_some o) m.in_place)

      by : (b : Bool) → length new.shape.arenas ≡ (if b then length old.shape.arenas + 1 else length old.shape.arenas)
          → length old.shape.arenas ≤ length new.shape.arenas
      by true e = omega arith
      by false e = omega arith

      longer : length old.colours ≤ length new.colours
      longer = let more = by (p.0 == length old.shape.arenas) m.grown in omega (arith, more, sized, m.coloured)

  held_joined : (r : ℕ) (k : Kind) (c : CompNo) (new : HeapState) → MakesHeld old r k c new
      → MakesHeld (joined old flown) r k c (joined new flown)
  held_joined r k c new m = record {
    zone = m.zone;
    place = m.place;
    made = joined m.made flown;
    home = m.home;
    makes = makes_joined m.zone m.place _ m.made m.makes;
    rest = ap (λ (h : HeapState). joined h flown) m.rest;
  }

  wrapper_joined : (zone : ℕ) (comp : CompNo) (number : ℕ) (target p : Place) (new : HeapState)
      → MakesWrapper old zone comp number target p new
      → MakesWrapper (joined old flown) zone comp number target p (joined new flown)
  wrapper_joined zone comp number target p new m = record {
    made = joined m.made flown;
    makes = makes_joined zone p _ m.made m.makes;
    rest = ap (λ (h : HeapState). joined h flown) m.rest;
    found = m.found;
    listed = m.listed;
    others = m.others;
  }

  holds_joined : (r : ℕ) (c : CompNo) (t : Place) (new : HeapState) → HoldsWrapper old r c t new
      → HoldsWrapper (joined old flown) r c t (joined new flown)
  holds_joined r c t new m = record {
    zone = m.zone;
    wrapper = m.wrapper;
    between = joined m.between flown;
    home = m.home;
    makes = wrapper_joined m.zone c _ t m.wrapper m.between m.makes;
    rest = ap (λ (h : HeapState). joined h flown) m.rest;
  }

  pub changes_joined : (new : HeapState) (ch : Change) (answer : Reply) → ChangesBy old ch answer new
      → ChangesBy (joined old flown) ch answer (joined new flown)
  changes_joined new change.Zone answer by = (ap (λ (h : HeapState). joined h flown) by.0, by.1)
  changes_joined new (change.Comp z) answer by = (ap (λ (h : HeapState). joined h flown) by.0, by.1)
  changes_joined new (change.Cell r z c k) answer by = (held_joined r k c new by.0, by.1)
  changes_joined new (change.Wrapper r z c t) answer by = (holds_joined r c t new by.0, by.1)
  changes_joined new (change.Register r v named) answer by = (ap (λ (h : HeapState). joined h flown) by.0, by.1)
  changes_joined new (change.Slot g v) answer by = (ap (λ (h : HeapState). joined h flown) by.0, by.1)
  changes_joined new (change.Field p f v) answer by = (writes_joined p f v new by.0, by.1)
  changes_joined new (change.Put m k v) answer by = (
    record {
      rest = ap (λ (h : HeapState). joined h flown) by.0.rest;
      values = by.0.values;
      count = by.0.count;
      entries = by.0.entries;
      rows = by.0.rows;
      delegates = by.0.delegates;
      left = by.0.left;
      parallel = by.0.parallel;
    },
    by.1,
  )
  changes_joined new (change.Del m k) answer by = (
    record {
      rest = ap (λ (h : HeapState). joined h flown) by.0.rest;
      values = by.0.values;
      count = by.0.count;
      rows = by.0.rows;
      carries = by.0.carries;
      sound = by.0.sound;
      parallel = by.0.parallel;
    },
    by.1,
  )

-- the last element of a longer list, and those before it
last_or_before : {X : Type 0} (xs : List X) (y : X) (i : ℕ) → (slice_get (xs ++ y ∷ []) i ≡ slice_get xs i)
    ⊎ (slice_get (xs ++ y ∷ []) i ≡ Some y)
last_or_before [] y zero = inr refl
last_or_before [] y (suc i) = inl refl
last_or_before (x ∷ xs) y zero = inl refl
last_or_before (x ∷ xs) y (suc i) = last_or_before xs y i

-- a wrapper that was there before a change stood where it stands after it
module _ (old : HeapState) (zone index : ℕ) (p : Place) (there : IsPresent old.shape p) where
  stood_same : (new : HeapState) {k : HeapState} → new ≡ k → k.shape.wrappers ≡ old.shape.wrappers
      → wrapper_at new.shape zone index ≡ Some p → wrapper_at old.shape zone index ≡ Some p
  stood_same new {k} e wrappers at =
      ap (λ (w : WrappersState). option_map (λ entry. entry.1) (slice_get (list_of w zone) index)) (sym wrappers)
      ∙ (ap (λ (h : HeapState). wrapper_at h.shape zone index) (sym e) ∙ at)

  stood_wrapped : (new : HeapState) (home : ℕ) (comp : CompNo) (number : ℕ) (target q : Place)
      → MakesWrapper old home comp number target q new → wrapper_at new.shape zone index ≡ Some p
      → wrapper_at old.shape zone index ≡ Some p
  stood_wrapped new home comp number target q m at = elim (cases_eq zone home) [
    | inl here ↦ (let longer : slice_get (list_of new.shape.wrappers zone) index
        ≡ slice_get (list_of old.shape.wrappers zone ++ (record { comp = comp.0; target = number }, q) ∷ []) index =
        ap (λ z. slice_get (list_of new.shape.wrappers z) index) here
        ∙ (ap (λ es. slice_get es index) m.listed
        ∙ ap (λ z. slice_get (list_of old.shape.wrappers z ++ (record { comp = comp.0; target = number }, q) ∷ [])
        index) (sym here)) in
        elim (last_or_before (list_of old.shape.wrappers zone) (record { comp = comp.0; target = number }, q) index) [
          | inl before ↦ ap (λ o. option_map (λ entry. entry.1) o) (sym (longer ∙ before)) ∙ at
          | inr last ↦ (let is : q ≡ p = cc (sym (ap (λ o. option_map (λ entry. entry.1) o) (longer ∙ last)) ∙ at) in
              absurd (cc (sym (ap (λ o. is_some o) (ap (cell_of old.shape) (sym is) ∙ m.makes.free)) ∙ there)))
        ])
    | inr away ↦ ap (λ es. option_map (λ entry. entry.1) (slice_get es index)) (sym (m.others zone away)) ∙ at
  ]

  stood_held : (new : HeapState) (r : ℕ) (k : Kind) (c : CompNo) → MakesHeld old r k c new
      → wrapper_at new.shape zone index ≡ Some p → wrapper_at old.shape zone index ≡ Some p
  stood_held new r k c m at =
      stood_same m.made m.makes.rest refl (ap (λ (h : HeapState). wrapper_at h.shape zone index) (sym m.rest) ∙ at)

  pub stood_before : (new : HeapState) (ch : Change) (answer : Reply) → ChangesBy old ch answer new
      → wrapper_at new.shape zone index ≡ Some p → wrapper_at old.shape zone index ≡ Some p
  stood_before new change.Zone answer by at = stood_same new by.0 refl at
  stood_before new (change.Comp z) answer by at = stood_same new by.0 refl at
  stood_before new (change.Cell r z c k) answer by at = stood_held new r k c by.0 at
  stood_before new (change.Wrapper r z c t) answer by at =
      stood_wrapped by.0.between by.0.zone c _ _ by.0.wrapper by.0.makes
      (ap (λ (h : HeapState). wrapper_at h.shape zone index) (sym by.0.rest) ∙ at)
  stood_before new (change.Register r v named) answer by at = stood_same new by.0 refl at
  stood_before new (change.Slot g v) answer by at = stood_same new by.0 refl at
  stood_before new (change.Field q f v) answer by at = stood_same new by.0.rest refl at
  stood_before new (change.Put m k v) answer by at = stood_same new by.0.rest refl at
  stood_before new (change.Del m k) answer by at = stood_same new by.0.rest refl at
