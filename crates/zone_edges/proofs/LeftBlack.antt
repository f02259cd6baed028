-- Changes keep that each wrapper that was not looked at has a black target.
use Rattle.std.proofs.Common.{◌≡◌, ◌⊎◌, ◌++◌, ◌∷◌, ℕ, zero, suc, Bool, true, false, List, [], Option, Some, None}
use Rattle.std.proofs.Common.{IsSomeAnd}
use Rattle.std.proofs.Common.{inl, inr}
use Rattle.std.proofs.Common.{slice_get, if◌then◌else◌, refl, sym, ap, subst, ◌∙◌}
use Rattle.std.specs.Option.{option_map}
use Rattle.std.proofs.lemmas.Bool.{cases_eq}
use Rattle.gz_names.specs.declared.names.Name.TheVariants.{Cell}
use Rattle.gz_names.specs.declared.commands.Kind.{Kind}
use Rattle.gz_names.specs.declared.commands.Kind.TheVariants as kind
use Rattle.gz_names.specs.declared.numbers.CompNo.{CompNo}
use Rattle.gz_names.specs.declared.numbers.Place.{Place}
use Rattle.gz_names.specs.declared.replies.Reply.{Reply}
use Rattle.cell_bits.specs.declared.bits.Bits.{Bits}
use Rattle.cell_bits.specs.declared.bits.Colour.{Colour}
use Rattle.cell_bits.specs.declared.bits.Colour.TheVariants as colour
use Rattle.arena_table.specs.Cells.{CellState}
use Rattle.arena_table.specs.Table.{new_cell}
use Rattle.wrappers.specs.WrapperMaps.{AreApart, WrappersState, list_of}
use Rattle.colour_defs.specs.Graph.{GraphState}
use Rattle.heap_core.specs.declared.plans.Change.{Change}
use Rattle.heap_core.specs.declared.plans.Change.TheVariants as change
use Rattle.heap_core.specs.Shape.{ArenaShape, cell_of, field_at, field_in, is_prepared}
use Rattle.heap_core.specs.Heap.{HeapState, colour_of, colour_in}
use Rattle.heap_core.specs.Changes.{Makes, MakesWrapper, Writes, wrapper_cell}
use Rattle.heap_core.specs.Effects.{HoldsWrapper, MakesHeld}
use Rattle.heap_core.specs.Lookups.{number_at}
use Rattle.heap_core.specs.Plans.{ChangesBy, HasField, IsAble}
use Rattle.heap_core.specs.Shows.{Shows, is_wrapper}
use Rattle.heap_core.proofs.MakingCells.{same-place}
use Rattle.zone_edges.specs.Looks.{AreLeftBlack, IsWrapperIn, WrapsBlack, wrapper_at}
use Rattle.zone_edges.specs.Noted.{Noted}
use Rattle.zone_edges.proofs.Looking.{stands_in}
use Rattle.zone_edges.proofs.SoundWrappers.{sound_has_wrappers}

-- the last element of a longer list, and those before it
last_or_before : {X : Type 0} (xs : List X) (y : X) (i : ℕ) → (slice_get (xs ++ y ∷ []) i ≡ slice_get xs i)
    ⊎ (slice_get (xs ++ y ∷ []) i ≡ Some y)
last_or_before [] y zero = inr refl
last_or_before [] y (suc i) = inl refl
last_or_before (x ∷ xs) y zero = inl refl
last_or_before (x ∷ xs) y (suc i) = last_or_before xs y i

-- a place whose kind is known holds a cell
kind_there : (o : Option CellState) (k : Kind) → option_map (λ (cell : CellState). cell.kind) o ≡ Some k
    → (cell : CellState) × (o ≡ Some cell) × (cell.kind ≡ k)
kind_there None k e = absurd (cc e)
kind_there (Some cell) k e = (cell, refl, cc e)

-- the arenas, the wrapper maps and the colours are as they were
left_same : (h k : HeapState) (n : Noted) → AreLeftBlack h n → k.shape.arenas ≡ h.shape.arenas
    → k.shape.wrappers ≡ h.shape.wrappers → k.colours ≡ h.colours → AreLeftBlack k n
left_same h k n left arenas wrappers colours z i p q has from at to =
    let black = left z i p q has from
    (ap (λ (w : WrappersState). option_map (λ entry. entry.1) (slice_get (list_of w z) i)) (sym wrappers) ∙ at)
    (ap (λ (xs : List ArenaShape). field_at (record h.shape { arenas = xs }) p 0) (sym arenas) ∙ to) in
    ap (λ (xs : List Bits). colour_in (slice_get xs q.0) q.1) colours ∙ black

module _ (old : HeapState) (g : GraphState) (n : Noted) (shows : Shows old g)
    (apart : AreApart old.shape.wrappers.lists) (left : AreLeftBlack old n) where
  listed : (z i : ℕ) (p : Place) → wrapper_at old.shape z i ≡ Some p → IsWrapperIn old.shape z p
  listed z i p at = stands_in old.shape z i p (sound_has_wrappers old (g, shows)) apart at

  -- a heap whose arenas, wrapper maps and colours are as they were
  by_parts : (new : HeapState) {k : HeapState} → new ≡ k → k.shape.arenas ≡ old.shape.arenas
      → k.shape.wrappers ≡ old.shape.wrappers → k.colours ≡ old.colours → AreLeftBlack new n
  by_parts new {k} e arenas wrappers colours =
      subst (λ (h : HeapState). AreLeftBlack h n) (sym e) (left_same old k n left arenas wrappers colours)

  -- a cell that is no wrapper was written
  left_written : (new : HeapState) (p : Place) (f : ℕ) (v : Option Place) → Writes old p f v new
      → ((z : ℕ) → IsWrapperIn old.shape z p → ⊥) → AreLeftBlack new n
  left_written new p f v w plain z i u q has from at to =
      let stood : wrapper_at old.shape z i ≡ Some u = ap (λ (h : HeapState). wrapper_at h.shape z i) (sym w.rest)
      ∙ at in
      let there = listed z i u stood in
      elim (same-place u p) [
        | inl same ↦ absurd (plain z (subst (IsWrapperIn old.shape z) same.0 there))
        | inr other ↦ (let cell : cell_of new.shape u ≡ cell_of old.shape u =
            w.cells u ∙ ap (λ b. if b then option_map (Rattle.arena_table.specs.Cells.with_value f v)
            (cell_of old.shape u) else cell_of old.shape u) other.1 in
            ap (λ (h : HeapState). colour_of h q) w.rest
            ∙ left z i u q has from stood (ap (λ o. field_in o 0) (sym cell) ∙ to))
      ]

  -- a cell was made, black or with the bits of its slot: a black place is black still
  still_black : (new : HeapState) (zone : ℕ) (p : Place) (cell : CellState) → Makes old zone p cell new → (q : Place)
      → colour_of old q ≡ colour.Black → colour_of new q ≡ colour.Black
  still_black new zone p cell m q black = elim (same-place q p) [
    | inr away ↦ m.colours q away.0 ∙ black
    | inl here ↦ ap (colour_of new) here.0 ∙ (m.born
        ∙ either (is_prepared old.shape zone) (colour_of old p) (ap (colour_of old) (sym here.0) ∙ black))
  ]
    where
      either : (b : Bool) (c : Colour) → c ≡ colour.Black → (if b then c else colour.Black) ≡ colour.Black
      either true c e = e
      either false c e = refl

  -- a cell was made
  left_made : (new : HeapState) (zone : ℕ) (p : Place) (cell : CellState) → Makes old zone p cell new
      → AreLeftBlack new n
  left_made new zone p cell m z i u q has from at to =
      let stood : wrapper_at old.shape z i ≡ Some u = ap (λ (h : HeapState). wrapper_at h.shape z i) (sym m.rest)
      ∙ at in
      let there = listed z i u stood in
      elim (same-place u p) [
        | inl same ↦ (let k = kind_there (cell_of old.shape u) kind.Wrapper there.kind_is in
            absurd (cc (sym k.1 ∙ ap (cell_of old.shape) same.0 ∙ m.free)))
        | inr other ↦ (let before : cell_of new.shape u ≡ cell_of old.shape u = m.cells u
            ∙ ap (λ b. if b then Some cell else cell_of old.shape u) other.1 in
            let leads : field_at old.shape u 0 ≡ Some q = ap (λ o. field_in o 0) (sym before) ∙ to in
            still_black new zone p cell m q (left z i u q has from stood leads))
      ]

  -- a wrapper of a black cell was made
  left_wrapped : (new : HeapState) (zone : ℕ) (comp : CompNo) (number : ℕ) (target p : Place)
      → MakesWrapper old zone comp number target p new → colour_of old target ≡ colour.Black → AreLeftBlack new n
  left_wrapped new zone comp number target p m black z i u q has from at to =
      let cells : (x : Place) → field_at new.shape x 0 ≡ field_at m.made.shape x 0 =
      λ x. ap (λ (h : HeapState). field_at h.shape x 0) m.rest in
      let colours : colour_of new q ≡ colour_of m.made q = ap (λ (h : HeapState). colour_of h q) m.rest in
      let maps : m.made.shape.wrappers ≡ old.shape.wrappers = ap (λ (h : HeapState). h.shape.wrappers) m.makes.rest in
      let before : wrapper_at old.shape z i ≡ Some u → colour_of new q ≡ colour.Black = λ stood. colours
      ∙ left_made m.made zone p (wrapper_cell comp number target) m.makes z i u q has from
      (ap (λ (w : WrappersState). option_map (λ entry. entry.1) (slice_get (list_of w z) i)) maps ∙ stood)
      (sym (cells u) ∙ to) in
      elim (cases_eq z zone) [
        | inl here ↦ (let longer : slice_get (list_of new.shape.wrappers z) i
            ≡ slice_get (list_of old.shape.wrappers z ++ (record { comp = comp.0; target = number }, p) ∷ []) i =
            ap (λ y. slice_get (list_of new.shape.wrappers y) i) here ∙ ap (λ es. slice_get es i) m.listed
            ∙ ap (λ y. slice_get (list_of old.shape.wrappers y ++ (record { comp = comp.0; target = number }, p) ∷ [])
            i) (sym here) in
            elim (last_or_before (list_of old.shape.wrappers z) (record { comp = comp.0; target = number }, p) i) [
              | inl old_one ↦ before (ap (λ o. option_map (λ entry. entry.1) o) (sym (longer ∙ old_one)) ∙ at)
              | inr last ↦ (let is : p ≡ u = cc (sym (ap (λ o. option_map (λ entry. entry.1) o) (longer ∙ last)) ∙ at)
                  in
                  let made_there : cell_of m.made.shape p ≡ Some (wrapper_cell comp number target) = m.makes.cells p
                  ∙ ap (λ b. if b then Some (wrapper_cell comp number target) else cell_of old.shape p)
                  (Rattle.heap_core.proofs.Places.place-same p) in
                  let leads : target ≡ q =
                  cc (sym (ap (λ o. field_in o 0) made_there)
                  ∙ (ap (λ x. field_at m.made.shape x 0) is ∙ (sym (cells u) ∙ to))) in
                  let still : colour_of m.made target ≡ colour.Black =
                  still_black m.made zone p (wrapper_cell comp number target) m.makes target black in
                  colours ∙ subst (λ x. colour_of m.made x ≡ colour.Black) leads still)
            ])
        | inr away ↦ before (ap (λ es. option_map (λ entry. entry.1) (slice_get es i)) (sym (m.others z away)) ∙ at)
      ]

  -- a cell with a field of its own is no wrapper
  plain : (p : Place) (f : ℕ) → IsSomeAnd (cell_of old.shape p) (λ (c : CellState). HasField c f) → (z : ℕ)
      → IsWrapperIn old.shape z p → ⊥
  plain p f has z there =
      let k = kind_there (cell_of old.shape p) kind.Wrapper there.kind_is in
      let field : HasField k.0 f = subst (λ o. IsSomeAnd o (λ (c : CellState). HasField c f)) k.1 has in
      cc (sym (ap is_wrapper k.2) ∙ field.plain)

  -- an object or a map was made, and a register holds it
  left_held : (new : HeapState) (r : ℕ) (k : Kind) (c : CompNo) → MakesHeld old r k c new → AreLeftBlack new n
  left_held new r k c m =
      left_same m.made new n (left_made m.made m.zone m.place (new_cell k c (Cell old.shape.objects)) m.makes)
      (ap (λ (h : HeapState). h.shape.arenas) m.rest) (ap (λ (h : HeapState). h.shape.wrappers) m.rest)
      (ap (λ (h : HeapState). h.colours) m.rest)

  -- a wrapper of a black cell was made, and a register holds it
  left_holds : (new : HeapState) (r : ℕ) (c : CompNo) (t : Place) → colour_of old t ≡ colour.Black
      → HoldsWrapper old r c t new → AreLeftBlack new n
  left_holds new r c t black m =
      left_same m.between new n (left_wrapped m.between m.zone c (number_at old.shape t) t m.wrapper m.makes black)
      (ap (λ (h : HeapState). h.shape.arenas) m.rest) (ap (λ (h : HeapState). h.shape.wrappers) m.rest)
      (ap (λ (h : HeapState). h.colours) m.rest)

  -- whatever is changed
  pub left_changes : (new : HeapState) (made : ℕ) (ch : Change) (answer : Reply) → IsAble old.shape made ch
      → WrapsBlack old ch → ChangesBy old ch answer new → AreLeftBlack new n
  left_changes new made change.Zone answer able black by = by_parts new by.0 refl refl refl
  left_changes new made (change.Comp z) answer able black by = by_parts new by.0 refl refl refl
  left_changes new made (change.Cell r z c k) answer able black by = left_held new r k c by.0
  left_changes new made (change.Wrapper r z c t) answer able black by = left_holds new r c t (black r z c t refl) by.0
  left_changes new made (change.Register r v named) answer able black by = by_parts new by.0 refl refl refl
  left_changes new made (change.Slot k v) answer able black by = by_parts new by.0 refl refl refl
  left_changes new made (change.Field p f v) answer able black by = left_written new p f v by.0 (plain p f able.0)
  left_changes new made (change.Put m k v) answer able black by = by_parts new by.0.rest refl refl refl
  left_changes new made (change.Del m k) answer able black by = by_parts new by.0.rest refl refl refl
