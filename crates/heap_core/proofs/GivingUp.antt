-- Arenas without cells are given up.
use Rattle.std.proofs.Common.{◌≡◌, ◌≤◌, ◌+◌, ◌==◌, ◌&&◌, ℕ, zero, suc, Bool, true, false, List, [], ◌∷◌}
use Rattle.std.proofs.Common.{length}
use Rattle.std.proofs.Common.{map, Option, Some, None, IsSome, is_some, nat_le, option_map, slice_get, if◌then◌else◌}
use Rattle.std.proofs.Common.{refl, sym}
use Rattle.std.proofs.Common.{◌∙◌, ap}
use Rattle.std.proofs.Common.{inl, inr, subst, leb-true, eqb-true, arith}
use Rattle.std.proofs.lemmas.List.{length-map}
use Rattle.std.proofs.lemmas.Option.{none-some, same_Some}
use Rattle.std.specs.Option.{option_and_then}
use Rattle.gz_names.proofs.Moving.{contained, moved-cases}
use Rattle.gz_names.specs.Moves.{moved}
use Rattle.gz_names.specs.declared.moves.Move.{Move}
use Rattle.gz_names.specs.declared.numbers.Place.{Place}
use Rattle.gz_names.specs.declared.zone_sets.ZoneSet.{ZoneSet}
use Rattle.cell_bits.specs.declared.bits.Bits.{Bits}
use Rattle.arena_table.specs.Cells.{CellState}
use Rattle.arena_table.specs.Moving as table
use Rattle.arena_table.specs.Moving.{AreEmptyFrom, given_up_from}
use Rattle.arena_table.specs.Slots.{Arena, cell_at, cell_in, given_up, held_in, is_out_at, no_zone}
use Rattle.arena_table.proofs.GivenUp.{cell-given_up, get-given_up, given_up_at, length-given_up}
use Rattle.weak_maps.specs.WeakMaps as weak
use Rattle.heap_core.specs.Heap.{HeapState, bits_of, colour_in}
use Rattle.heap_core.specs.Moving.{AreCarried, AreMoves, Carries, count_from, is_from, zones_from}
use Rattle.heap_core.specs.Moving.{MayRelocate, zones_now}
use Rattle.heap_core.specs.Shape.{ArenaShape, AreWhole, IsPresent, Shape, arena_shape, arena_shapes, cell_in_arena}
use Rattle.heap_core.specs.Shape.{cell_of, field_in, out_in, out_of, zone_in, zone_of}
use Rattle.heap_core.specs.TargetZones.{AreTargetsNoted, IsWrapperOf}
use Rattle.heap_core.proofs.Leading.{is-kept, seen-kept, zone-seen}
use Rattle.heap_core.proofs.MakingCells.{zone_at}
use Rattle.heap_core.proofs.NotedTargets.{owner-seen}
use Rattle.heap_core.proofs.Relocated.{WentTo, shows}
use Rattle.heap_core.proofs.Staying.{cell-same, held-same, weak-same, wrappers-same}

-- a part of an arena that stays as it is given up
either : {Y : Type 0} (part : ArenaShape → Y) → ((x : Arena) → part (arena_shape (given_up x)) ≡ part (arena_shape x))
    → (b : Bool) (x : Arena) → part (arena_shape (if b then given_up x else x)) ≡ part (arena_shape x)
either part same true x = same x
either part same false x = refl

module _ (zone first : ℕ) where
  part-kept : {Y : Type 0} (part : ArenaShape → Y)
      → ((x : Arena) → part (arena_shape (given_up x)) ≡ part (arena_shape x)) → (n : ℕ) (xs : List Arena) (a : ℕ)
      → option_map part (slice_get (arena_shapes (given_up_from zone first n xs)) a)
      ≡ option_map part (slice_get (arena_shapes xs) a)
  part-kept part same n [] a = refl
  part-kept part same n (x ∷ xs) zero = ap Some (either part same (nat_le first n && (x.zone == zone)) x)
  part-kept part same n (x ∷ xs) (suc a) = part-kept part same (suc n) xs a

  cells-kept : (n : ℕ) (xs : List Arena) (a k : ℕ)
      → cell_in_arena (slice_get (arena_shapes (given_up_from zone first n xs)) a) k
      ≡ cell_in_arena (slice_get (arena_shapes xs) a) k
  cells-kept n [] a k = refl
  cells-kept n (x ∷ xs) zero k =
      either (λ s. cell_in_arena (Some s) k) (λ y. refl) (nat_le first n && (x.zone == zone)) x
  cells-kept n (x ∷ xs) (suc a) k = cells-kept (suc n) xs a k

  outs-kept : (n : ℕ) (xs : List Arena) (a : ℕ)
      → out_in (slice_get (arena_shapes (given_up_from zone first n xs)) a) ≡ out_in (slice_get (arena_shapes xs) a)
  outs-kept n [] a = refl
  outs-kept n (x ∷ xs) zero =
      either (λ s. out_in (Some s)) (λ y. refl) (nat_le first n && (x.zone == zone)) x
  outs-kept n (x ∷ xs) (suc a) = outs-kept (suc n) xs a

  bits-kept : (n : ℕ) (xs : List Arena) → bits_of (given_up_from zone first n xs) ≡ bits_of xs
  bits-kept n [] = refl
  bits-kept n (x ∷ xs) =
      ap (λ (b : Bits). b ∷ bits_of (given_up_from zone first (suc n) xs)) (one (nat_le first n && (x.zone == zone)))
      ∙ ap (λ (bs : List Bits). x.bits ∷ bs) (bits-kept (suc n) xs)
    where
      one : (b : Bool) → (if b then given_up x else x).bits ≡ x.bits
      one true = refl
      one false = refl

  zone-kept : (n : ℕ) (xs : List Arena) (a : ℕ) → (first ≤ n + a → zone_at xs a ≡ zone → ⊥)
      → zone_at (given_up_from zone first n xs) a ≡ zone_at xs a
  zone-kept n [] a other = refl
  zone-kept n (x ∷ xs) zero other = by (nat_le first n) (x.zone == zone) refl refl
    where
      by : (t u : Bool) → nat_le first n ≡ t → (x.zone == zone) ≡ u → (if t && u then given_up x else x).zone ≡ x.zone
      by true true e f = absurd (other (let le = leb-true first n e in omega (arith, le)) (eqb-true x.zone zone f))
      by true false e f = refl
      by false u e f = refl
  zone-kept n (x ∷ xs) (suc a) other = zone-kept (suc n) xs a (λ le. other (omega (arith, le)))

  -- the zones of arenas, by the zones that they had
  zones_by : ℕ → List ℕ → List ℕ
  zones_by n [] = []
  zones_by n (z ∷ zs) = (if nat_le first n && (z == zone) then no_zone else z) ∷ zones_by (suc n) zs

  zones-by : (n : ℕ) (ss : List ArenaShape) → zones_from zone first n ss
      ≡ zones_by n (map (λ (s : ArenaShape). s.zone) ss)
  unfolding zones_by
  zones-by n [] = refl
  zones-by n (s ∷ ss) = ap (λ zs. (if is_from zone first n s then no_zone else s.zone) ∷ zs) (zones-by (suc n) ss)

  zones-given_up : (n : ℕ) (xs : List Arena)
      → map (λ (s : ArenaShape). s.zone) (arena_shapes (given_up_from zone first n xs))
      ≡ zones_from zone first n (arena_shapes xs)
  zones-given_up n [] = refl
  zones-given_up n (x ∷ xs) =
      ap (λ z. z ∷ map (λ (s : ArenaShape). s.zone) (arena_shapes (given_up_from zone first (suc n) xs)))
      (one (nat_le first n && (x.zone == zone)))
      ∙ ap (λ zs. (if is_from zone first n (arena_shape x) then no_zone else x.zone) ∷ zs) (zones-given_up (suc n) xs)
    where
      one : (b : Bool) → (arena_shape (if b then given_up x else x)).zone ≡ (if b then no_zone else x.zone)
      one true = refl
      one false = refl

  count_by : ℕ → List ℕ → ℕ
  count_by n [] = zero
  count_by n (z ∷ zs) = (if nat_le first n && (z == zone) then 1 else 0) + count_by (suc n) zs

  count-by : (n : ℕ) (ss : List ArenaShape) → count_from zone first n ss
      ≡ count_by n (map (λ (s : ArenaShape). s.zone) ss)
  unfolding count_by
  count-by n [] = refl
  count-by n (s ∷ ss) = ap (λ m. (if is_from zone first n s then 1 else 0) + m) (count-by (suc n) ss)

  count-table : (n : ℕ) (xs : List Arena) → table.count_from zone first n xs ≡ count_from zone first n (arena_shapes xs)
  count-table n [] = refl
  count-table n (x ∷ xs) = ap (λ m. (if nat_le first n && (x.zone == zone) then 1 else 0) + m) (count-table (suc n) xs)

  -- how many are given up, by the heap from which the cells went
  pub count-given_up : (old h : HeapState) (xs : List Arena) → h.shape.arenas ≡ arena_shapes xs
      → zones_now h ≡ zones_now old → table.count_from zone first 0 xs ≡ count_from zone first 0 old.shape.arenas
  count-given_up old h xs seen same =
      count-table 0 xs ∙ ap (count_from zone first 0) (sym seen) ∙ count-by 0 h.shape.arenas ∙ ap (count_by 0) same
      ∙ sym (count-by 0 old.shape.arenas)

-- the heap when arenas of a zone are given up, by its arenas
abbrev pub given_up_heap : HeapState → List Arena → ℕ → ℕ → HeapState
given_up_heap h xs zone first = record h {
  shape = record h.shape { arenas = arena_shapes (given_up_from zone first 0 xs) };
  colours = bits_of (given_up_from zone first 0 xs);
}

-- the cells went, and no cell is in the arenas that are given up
pub record GivesUp (old h : HeapState) (xs : List Arena) (zone first : ℕ) (moves : List Move) : Type 0 where
  pub seen : h.shape.arenas ≡ arena_shapes xs
  pub coloured : h.colours ≡ bits_of xs
  pub empty : (p : Place) → IsPresent h.shape p → zone_of h.shape p ≡ zone → first ≤ p.0 → ⊥
  pub went : Carries (zones_now old) old zone moves h
  pub entries : weak.IsSound h.shape.weak

module _ (old h : HeapState) (xs : List Arena) (zone first : ℕ) (moves : List Move)
    (c : GivesUp old h xs zone first moves) where
  abbrev k : HeapState
  k = given_up_heap h xs zone first

  cells-are : (p : Place) → cell_of k.shape p ≡ cell_of h.shape p
  cells-are p = cells-kept zone first 0 xs p.0 p.1
      ∙ ap (λ ss. cell_in_arena (slice_get ss p.0) p.1) (sym c.seen)

  zones-are : (p : Place) → IsPresent h.shape p → zone_of k.shape p ≡ zone_of h.shape p
  zones-are p held = zone-kept zone first 0 xs p.0 (λ le mine. c.empty p held
      (ap (λ ss. zone_in (slice_get ss p.0)) c.seen ∙ mine) (omega (arith, le)))
      ∙ ap (λ ss. zone_in (slice_get ss p.0)) (sym c.seen)

  colours-are : k.colours ≡ h.colours
  colours-are = bits-kept zone first 0 xs ∙ sym c.coloured

  present-are : (p : Place) → IsPresent h.shape p → IsPresent k.shape p
  present-are p held = subst IsSome (sym (cells-are p)) held

  went-here : WentTo h.shape k.shape zone []
  went-here = record {
    states = refl;
    comps = refl;
    wrappers = sym (wrappers-same h.shape.wrappers zone);
    weak_is = sym (weak-same h.shape.weak);
    regs = sym (held-same h.shape.regs);
    slots = sym (held-same h.shape.slots);
    objects = refl;
    cells = λ p held. cells-are p ∙ sym (cell-same (cell_of h.shape p));
    back = λ q held. (q, subst IsSome (cells-are q) held, refl);
    zones = zones-are;
    apart = λ p q a b same. same;
    stays = λ p held other. refl;
    was_sound = c.entries;
    is_sound = c.entries;
  }

  pub gives-up : Carries (zones_from zone first 0 old.shape.arenas) old zone moves (given_up_heap h xs zone first)
  gives-up = record {
    rest = ap (λ (x : HeapState). given_up_heap x xs zone first) c.went.rest;
    cells = λ p held. cells-are (moved moves p) ∙ c.went.cells p held;
    back = λ q held. c.went.back q (subst IsSome (cells-are q) held);
    zones = λ p held. zones-are (moved moves p) (there p held) ∙ c.went.zones p held;
    colours = λ p held. ap (λ bs. colour_in (slice_get bs (moved moves p).0) (moved moves p).1) colours-are
        ∙ c.went.colours p held;
    clear = λ all q seen-now. present-are q (c.went.clear all q
        (λ white. seen-now (ap (λ bs. colour_in (slice_get bs q.0) q.1) colours-are ∙ white)));
    owners = zones-given_up zone first 0 xs
        ∙ ap (zones_from zone first 0) (sym c.seen) ∙ zones-by zone first 0 h.shape.arenas
        ∙ ap (zones_by zone first 0) c.went.owners ∙ sym (zones-by zone first 0 old.shape.arenas);
    outs = λ a. outs-kept zone first 0 xs a
        ∙ ap (λ ss. out_in (slice_get ss a)) (sym c.seen) ∙ c.went.outs a;
    whole = λ whole a arena at. long a arena at (c.went.whole whole);
    sized = λ sized. ap length colours-are ∙ c.went.sized sized
        ∙ ap length c.seen ∙ length-map xs arena_shape
        ∙ sym (length-map (given_up_from zone first 0 xs) arena_shape
        ∙ length-given_up zone first 0 xs);
    shows = λ g was. shows h k zone [] went-here refl g (c.went.shows g was);
  }
    where
      there : (p : Place) → IsPresent old.shape p → IsPresent h.shape (moved moves p)
      there p held = subst IsSome (sym (c.went.cells p held)) (some (cell_of old.shape p) held)
        where
          some : (o : Option CellState) → IsSome o → IsSome (option_map (table.forwarded moves) o)
          some None is = is
          some (Some cell) is = is

      long : (a : ℕ) (arena : ArenaShape) → slice_get k.shape.arenas a ≡ Some arena → AreWhole h.shape.arenas
          → length arena.slots ≡ 64
      long a arena at whole = by (slice_get h.shape.arenas a) refl
          (sym (ap (option_map (λ (s : ArenaShape). length s.slots)) at)
          ∙ part-kept zone first (λ s. length s.slots) (λ x. refl) 0 xs a
          ∙ ap (λ ss. option_map (λ (s : ArenaShape). length s.slots) (slice_get ss a)) (sym c.seen))
        where
          by : (o : Option ArenaShape) → slice_get h.shape.arenas a ≡ o
              → Some (length arena.slots) ≡ option_map (λ (s : ArenaShape). length s.slots) o
              → length arena.slots ≡ 64
          by None found e = absurd (none-some (length arena.slots) (sym e))
          by (Some s) found e = same_Some (length arena.slots) (length s.slots) e ∙ whole a s found

-- the zones of all targets are noted as they were
pub noted-given_up : (xs : List Arena) (noted : List ZoneSet) (zone first : ℕ)
    → ((p : Place) → IsSome (cell_at xs p) → zone_at xs p.0 ≡ zone → first ≤ p.0 → ⊥)
    → ((p target : Place) (cell : CellState) → cell_at xs p ≡ Some cell → IsWrapperOf cell target
    → IsSome (cell_at xs target)) → AreTargetsNoted xs noted → AreTargetsNoted (given_up_from zone first 0 xs) noted
noted-given_up xs noted zone first empty held was = record {
  targets = λ p target cell at wraps.
      (let stands : cell_at xs p ≡ Some cell = sym (cell-given_up zone first 0 xs p) ∙ at in
      let is = was.targets p target cell stands wraps in
      record {
        from = is.from;
        to = is.to;
        from_is = keeps p.0 is.from is.from_is (empty p (ap is_some stands));
        to_is = keeps target.0 is.to is.to_is (empty target (held p target cell stands wraps));
        is_noted = is.is_noted;
      });
}
  where
    keeps : (a z : ℕ) → option_map (λ (x : Arena). x.zone) (slice_get xs a) ≡ Some z
        → (zone_at xs a ≡ zone → first ≤ a → ⊥)
        → option_map (λ (x : Arena). x.zone) (slice_get (given_up_from zone first 0 xs) a) ≡ Some z
    keeps a z is other = ap (option_map (λ (x : Arena). x.zone)) (get-given_up zone first 0 xs a)
        ∙ by (slice_get xs a) refl is
      where
        by : (o : Option Arena) → slice_get xs a ≡ o → option_map (λ (x : Arena). x.zone) o ≡ Some z
            → option_map (λ (x : Arena). x.zone) (option_map (given_up_at zone first (0 + a)) o) ≡ Some z
        by None at e = absurd (none-some z e)
        by (Some x) at e = of (nat_le first (0 + a)) (x.zone == zone) refl refl
          where
            here : zone_at xs a ≡ x.zone
            here = owner-seen xs a x.zone (ap (option_map (λ (y : Arena). y.zone)) at)

            of : (t u : Bool) → nat_le first (0 + a) ≡ t → (x.zone == zone) ≡ u
                → Some (if t && u then given_up x else x).zone ≡ Some z
            of true true f g = absurd (other (here ∙ eqb-true x.zone zone g)
                (let le = leb-true first (0 + a) f in omega (arith, le)))
            of true false f g = e
            of false u f g = e

-- so it is when the cells went
module _ (old h : HeapState) (xs : List Arena) (zone first : ℕ) (moves : List Move)
    (c : GivesUp old h xs zone first moves) where
  seen-now : (p : Place) → cell_of h.shape p ≡ cell_at xs p
  seen-now p = seen-kept h.shape xs c.seen c.went.outs p

  pub noted-given : (noted : List ZoneSet) → MayRelocate old → AreTargetsNoted xs noted
      → AreTargetsNoted (given_up_from zone first 0 xs) noted
  noted-given noted may was = noted-given_up xs noted zone first
      (λ p held own le. c.empty p (subst IsSome (sym (seen-now p)) held)
      (zone-seen h.shape xs c.seen c.went.outs p ∙ own) le)
      (λ p target cell at wraps.
      (let shown = c.went.shows may.sound.0 may.sound.1 in
      subst IsSome (seen-now target)
      (shown.fields_held p target 0 (ap (λ o. field_in o 0) (seen-now p ∙ at) ∙ wraps.target_is))))
      was

-- what is to be moved may be carried
pub are-carried : (s : Shape) (zone first : ℕ) (moves : List Move) → AreMoves s zone first moves → AreCarried s zone
    moves
are-carried s zone first moves are = record {
  from = λ m has. (let is = are.from m has in (is.0, is.1));
  made = λ m has. (let is = are.made m has in (is.0, is.1));
  free = are.free;
  apart = are.apart;
}

-- all cells of the arenas that are given up went
pub record AllWent (old h : HeapState) (zone first : ℕ) (moves : List Move) : Type 0 where
  pub are : AreMoves old.shape zone first moves
  pub went : Carries (zones_now old) old zone moves h

-- then no cell is in the arenas of the zone from the number on
pub emptied : (old h : HeapState) (zone first : ℕ) (moves : List Move) → AllWent old h zone first moves → (q : Place)
    → IsPresent h.shape q → zone_of h.shape q ≡ zone → first ≤ q.0 → ⊥
emptied old h zone first moves c q held own le =
    let p = c.went.back q held in
    let zone_is : zone_of old.shape p.0 ≡ zone =
    sym (c.went.zones p.0 p.1) ∙ ap (zone_of h.shape) p.2 ∙ own in
    elim (moved-cases moves p.0) [
      | inl w ↦
          (let below = (c.are.made w.1 (contained moves w.0 w.1 w.2)).2 in
          let same = ap (λ (r : Place). r.0) (sym w.4 ∙ p.2) in omega (arith, below, same, le))
      | inr s ↦
          (let here : p.0 ≡ q = sym s.0 ∙ p.2 in
          let above = ap (λ (r : Place). r.0) here in
          s.1 (c.are.all p.0 p.1 zone_is (omega (arith, le, above))))
    ]

pub empty-from : (s : Shape) (xs : List Arena) (zone first : ℕ) → s.arenas ≡ arena_shapes xs
    → ((a : ℕ) → out_of s a ≡ None)
    → ((p : Place) → IsPresent s p → zone_of s p ≡ zone → first ≤ p.0 → ⊥) → AreEmptyFrom xs zone first
empty-from s xs zone first seen kept none = λ a arena le at own. (
  none-held arena.slots (λ k held. none (a, k)
      (subst IsSome (sym (seen-kept s xs seen kept (a, k))
      ) (subst IsSome (sym (ap (option_and_then (λ (y : Arena). cell_in y.slots k)) at)) held))
      (zone-seen s xs seen kept (a, k) ∙ owner-seen xs a arena.zone (ap (option_map (λ (y : Arena). y.zone)) at) ∙ own)
      le),
  sym (out-at xs a arena at) ∙ is-kept s xs seen kept a,
)
  where
    none-held : (slots : List (Option CellState)) → ((k : ℕ) → IsSome (cell_in slots k) → ⊥) → held_in slots ≡ 0
    none-held [] none = refl
    none-held (None ∷ slots) none = none-held slots (λ k. none (suc k))
    none-held (Some cell ∷ slots) none = absurd (none zero cc)

    out-at : (xs : List Arena) (a : ℕ) (x : Arena) → slice_get xs a ≡ Some x → is_out_at xs a ≡ x.is_out
    out-at [] a x at = absurd (none-some x at)
    out-at (y ∷ xs) zero x at = ap (λ (z : Arena). z.is_out) (same_Some y x at)
    out-at (y ∷ xs) (suc a) x at = out-at xs a x at

-- the cells went, by the parts of the heap then
pub record CellsWent (old h b : HeapState) (xs : List Arena) (zone first : ℕ) (moves : List Move) : Type 0 where
  pub is : b ≡ h
  pub seen : b.shape.arenas ≡ arena_shapes xs
  pub coloured : b.colours ≡ bits_of xs
  pub are : AreMoves old.shape zone first moves
  pub went : Carries (zones_now old) old zone moves h
  pub entries : weak.IsSound h.shape.weak

-- so arenas may be given up
pub gives-by : (old h b : HeapState) (xs : List Arena) (zone first : ℕ) (moves : List Move)
    → CellsWent old h b xs zone first moves → GivesUp old h xs zone first moves
gives-by old h b xs zone first moves c = record {
  seen = ap (λ (x : HeapState). x.shape.arenas) (sym c.is) ∙ c.seen;
  coloured = ap (λ (x : HeapState). x.colours) (sym c.is) ∙ c.coloured;
  empty = emptied old h zone first moves (record { are = c.are; went = c.went });
  went = c.went;
  entries = c.entries;
}
