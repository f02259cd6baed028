-- A cell is born black, and on no pile: what is to come of marking is no more than before.
use Rattle.std.proofs.Common.{◌≡◌, ◌≢◌, ◌⊎◌, ◌+◌, ◌-◌, ◌≤◌, ◌&&◌, ℕ, suc, Bool, true, false, inl, inr, refl, ap, ◌∙◌}
use Rattle.std.proofs.Common.{subst}
use Rattle.std.proofs.Common.{arith, cond, List, [], ◌∷◌, length, count_by, sum_by, Contains, Option, None, Some}
use Rattle.std.proofs.Common.{is_some}
use Rattle.std.proofs.Common.{slice_get, if◌then◌else◌}
use Rattle.std.proofs.lemmas.List.Sums.{sum_by-cons}
use Rattle.std.proofs.lemmas.Option.{slice_get_within}
use Rattle.gz_names.specs.declared.names.Name.{Name}
use Rattle.gz_names.specs.declared.numbers.Place.{Place}
use Rattle.cell_bits.specs.declared.bits.Colour.{Colour}
use Rattle.cell_bits.specs.declared.bits.Colour.TheVariants as colour
use Rattle.zones.specs.declared.states.State.TheVariants as state
use Rattle.arena_table.specs.Table.{is_place}
use Rattle.colour_defs.proofs.Lists.{contains_head, contains_tail}
use Rattle.mark_stack.specs.Stack.{Piles}
use Rattle.heap_core.specs.Shape.{ArenaShape, IsPresent, Shape, cell_in_arena, cell_of, is_marking, is_marking_state}
use Rattle.heap_core.specs.Shape.{name_at, state_of}
use Rattle.heap_core.specs.Heap.{HeapState, colour_of}
use Rattle.heap_core.proofs.MakingCells.{same-place}
use Rattle.barriers.specs.Colours.{IsBlack}
use Rattle.barriers.specs.Scans.{AreScannedOnce, black_scans, black_turns, gray_scans, gray_turns}
use Rattle.barriers.proofs.Places.{same_or_other}
use Rattle.marker.specs.UnitsToCome.{is_black_only, map_starts, scans}
use Rattle.marker.proofs.UnitsToCome.{where_both, where_off}
use Rattle.slice_driver.specs.UnitsToCome.{is_wrapper_named, may_be_noted, notes}
use Rattle.slice_driver.specs.UnitsToCome.{present_places}
use Rattle.slice_driver.proofs.measure.PresentPlaces.{present_no_more, present_no_more_grown, where_present}
use Rattle.slice_driver.proofs.measure.StatesToCome.{marks_black, present_by_name}

-- a cell came to a place where none was present: it is black and on no pile of marking, and the cells that were present
-- are as they were
pub record IsBorn (h k : HeapState) (p : Piles) (x : Place) : Type 0 where
  pub absent : IsPresent h.shape x → ⊥
  pub others : (y : Place) → y ≢ x → name_at k.shape y ≡ name_at h.shape y
  pub states : (y : Place) → IsPresent h.shape y → state_of k.shape y ≡ state_of h.shape y
  pub colours : (y : Place) → IsPresent h.shape y → colour_of k y ≡ colour_of h y
  pub black : IsBlack k x
  pub off_black : Contains p.black x → ⊥
  pub off_gray : Contains p.gray x → ⊥

-- a place that is not in a list is in it no time
count_none : (ps : List Place) (x : Place) → (Contains ps x → ⊥) → count_by (is_place x) ps ≡ 0
count_none [] x off = refl
count_none (y ∷ ps) x off =
    let rest = count_none ps x (λ c. off (contains_tail y ps x c)) in
    let both = sum_by-cons (λ z. cond (is_place x z) 1 0) y ps in
    let here : is_place x y ≡ false = elim (same-place x y) [
      | inl same ↦ absurd (off (subst (λ z. Contains (z ∷ ps) x) same.0 (contains_head x ps)))
      | inr other ↦ other.1
    ] in
    let none : ◌≡◌ {A = ℕ} (cond (is_place x y) 1 0) 0 = ap (λ b. cond b 1 0) here in
    omega (arith, rest, both, none)

-- nothing is present in an arena that is not made
none_past : (s : Shape) (slot : ℕ) → is_some (cell_of s (length s.arenas, slot)) ≡ false
none_past s slot = go (slice_get s.arenas (length s.arenas)) refl
  where
    go : (o : Option ArenaShape) → slice_get s.arenas (length s.arenas) ≡ o
        → is_some (cell_in_arena (slice_get s.arenas (length s.arenas)) slot) ≡ false
    go None e = ap (λ (o : Option ArenaShape). is_some (cell_in_arena o slot)) e
    go (Some arena) e = absurd (omega (arith, slice_get_within s.arenas (length s.arenas) arena e))

module _ (h k : HeapState) (p : Piles) (x : Place) (born : IsBorn h k p x) where
  -- the cell counts for nothing
  none_at : (b : Bool) → (if b then black_scans k p x + gray_scans k p x else 0) ≡ 0
  none_at true =
      let black : black_turns (colour_of k x) ≡ 0 = ap black_turns born.black in
      let gray : gray_turns (colour_of k x) ≡ 0 = ap gray_turns born.black in
      omega (arith, black, gray, count_none p.black x born.off_black, count_none p.gray x born.off_gray)
  none_at false = refl

  none_noted : (b : Bool) → (if b then gray_scans k p x else 0) ≡ 0
  none_noted true =
      let gray : gray_turns (colour_of k x) ≡ 0 = ap gray_turns born.black in
      omega (arith, gray, count_none p.gray x born.off_gray)
  none_noted false = refl

  not_born : (y : Place) → IsPresent h.shape y → y ≢ x
  not_born y present e = born.absent (subst (IsPresent h.shape) e present)

  marking : (y : Place) → IsPresent h.shape y → is_marking k.shape y ≡ is_marking h.shape y
  marking y present = ap is_marking_state (born.states y present)

  -- and each that was present for what it did
  pub scans_same : (y : Place) → IsPresent h.shape y → scans k p y ≤ scans h p y
  scans_same y present =
      let black : black_scans k p y ≡ black_scans h p y =
      ap (λ (c : Colour). black_turns c + count_by (is_place y) p.black) (born.colours y present) in
      let gray : gray_scans k p y ≡ gray_scans h p y =
      ap (λ (c : Colour). gray_turns c + count_by (is_place y) p.gray) (born.colours y present) in
      where_both (is_marking k.shape y) (is_marking h.shape y) (black_scans k p y + gray_scans k p y)
      (black_scans h p y + gray_scans h p y) (marking y present) (omega (arith, black, gray))

  pub maps_same : (y : Place) → IsPresent h.shape y → map_starts k p y ≤ map_starts h p y
  maps_same y present =
      let colour : 1 - black_turns (colour_of k y) ≡ 1 - black_turns (colour_of h y) =
      ap (λ (c : Colour). 1 - black_turns c) (born.colours y present) in
      let more = where_both (is_black_only (state_of k.shape y)) (is_black_only (state_of h.shape y))
      (1 - black_turns (colour_of k y)) (1 - black_turns (colour_of h y)) (ap is_black_only (born.states y present))
      (omega (arith, colour)) in
      omega (arith, more, scans_same y present)

  notes_same : (y : Place) → IsPresent h.shape y → notes k p y ≤ notes h p y
  notes_same y present =
      let gray : gray_scans k p y ≡ gray_scans h p y =
      ap (λ (c : Colour). gray_turns c + count_by (is_place y) p.gray) (born.colours y present) in
      let name = born.others y (not_born y present) in
      let may : may_be_noted k.shape y ≡ may_be_noted h.shape y =
      ap (λ (b : Bool). b && is_wrapper_named (name_at k.shape y)) (marking y present)
      ∙ ap (λ (o : Option Name). is_marking h.shape y && is_wrapper_named o) name in
      where_both (may_be_noted k.shape y) (may_be_noted h.shape y) (gray_scans k p y) (gray_scans h p y) may
      (omega (arith, gray))

  present_less : (f g : Place → ℕ) → g x ≡ 0 → ((y : Place) → IsPresent h.shape y → g y ≤ f y)
      → (y : Place) → where_present k.shape g y ≤ where_present h.shape f y
  present_less f g none less y = elim (same_or_other y x) [
    | inl same ↦ at_none (is_some (cell_of k.shape y)) (ap g same ∙ none)
    | inr other ↦ at_other (is_some (cell_of h.shape y)) refl
        (present_by_name h.shape k.shape y (born.others y other))
  ]
    where
      at_none : (b : Bool) → g y ≡ 0 → (if b then g y else 0) ≤ where_present h.shape f y
      at_none true zero_there = omega (arith, zero_there)
      at_none false zero_there = omega arith

      at_other : (b : Bool) → is_some (cell_of h.shape y) ≡ b
          → is_some (cell_of k.shape y) ≡ is_some (cell_of h.shape y)
          → where_present k.shape g y ≤ where_present h.shape f y
      at_other true there same =
          where_both (is_some (cell_of k.shape y)) (is_some (cell_of h.shape y)) (g y) (f y) same (less y there)
      at_other false there same = where_off (is_some (cell_of k.shape y)) (g y) (where_present h.shape f y)
          (same ∙ there)

  -- in the slot of an arena that was made, or in a new arena
  sum_less : (f g : Place → ℕ) → g x ≡ 0 → ((y : Place) → IsPresent h.shape y → g y ≤ f y)
      → (length k.shape.arenas ≡ length h.shape.arenas) ⊎ (length k.shape.arenas ≡ suc (length h.shape.arenas))
      → sum_by g (present_places k.shape) ≤ sum_by f (present_places h.shape)
  sum_less f g none less (inl sized) =
      present_no_more h.shape k.shape f g sized (present_less f g none less)
  sum_less f g none less (inr grown) =
      present_no_more_grown h.shape k.shape f g grown (present_less f g none less)
      (λ slot. (let at = present_less f g none less (length h.shape.arenas, slot) in
      let past : where_present h.shape f (length h.shape.arenas, slot) ≡ 0 =
      ap (λ b. if b then f (length h.shape.arenas, slot) else 0) (none_past h.shape slot) in
      omega (arith, at, past)))

  pub born_scans : (length k.shape.arenas ≡ length h.shape.arenas)
      ⊎ (length k.shape.arenas ≡ suc (length h.shape.arenas))
      → sum_by (scans k p) (present_places k.shape) ≤ sum_by (scans h p) (present_places h.shape)
  born_scans sized = sum_less (scans h p) (scans k p) (none_at (is_marking k.shape x)) scans_same sized

  pub born_notes : (length k.shape.arenas ≡ length h.shape.arenas)
      ⊎ (length k.shape.arenas ≡ suc (length h.shape.arenas))
      → sum_by (notes k p) (present_places k.shape) ≤ sum_by (notes h p) (present_places h.shape)
  born_notes sized = sum_less (notes h p) (notes k p) (none_noted (may_be_noted k.shape x)) notes_same sized

if_few : (b : Bool) (m n : ℕ) → m ≤ n → (if b then m else 0) ≤ n
if_few true m n low = low
if_few false m n low = omega arith

-- where each cell may be scanned once at most in either colour, and only cells of zones that take gray are on the gray
-- pile
module _ (h : HeapState) (p : Piles) (once : AreScannedOnce h p)
    (piled : (x : Place) → Contains p.gray x → state_of h.shape x ≡ state.MarkBlackAndGray) where
  -- twice at most
  pub few_scans : (x : Place) → scans h p x ≤ 2
  few_scans x = if_few (is_marking h.shape x) (black_scans h p x + gray_scans h p x) 2
      (omega (arith, once.black x, once.gray x))

  -- a black cell that is on no gray pile is scanned in gray no more
  two_at : (x : Place) (c : Colour) → colour_of h x ≡ c → count_by (is_place x) p.gray ≡ 0
      → black_scans h p x + gray_scans h p x + (1 - black_turns (colour_of h x)) ≤ 2
  two_at x colour.White e none =
      let turns : black_turns (colour_of h x) ≡ 1 = ap black_turns e in omega (arith, once.black x, once.gray x, turns)
  two_at x colour.Gray e none =
      let turns : black_turns (colour_of h x) ≡ 1 = ap black_turns e in omega (arith, once.black x, once.gray x, turns)
  two_at x colour.Black e none =
      let turns : gray_turns (colour_of h x) ≡ 0 = ap gray_turns e in omega (arith, once.black x, turns, none)

  pub few_maps : (x : Place) → map_starts h p x ≤ 2
  few_maps x = go (is_black_only (state_of h.shape x)) refl
    where
      go : (b : Bool) → is_black_only (state_of h.shape x) ≡ b → map_starts h p x ≤ 2
      go true only =
          let none = count_none p.gray x
          (λ has. (let takes = ap is_black_only (piled x has) in cc (only, takes))) in
          let two = two_at x (colour_of h x) refl none in
          let first = if_few (is_marking h.shape x) (black_scans h p x + gray_scans h p x)
          (black_scans h p x + gray_scans h p x) (omega arith) in
          let second = if_few (is_black_only (state_of h.shape x)) (1 - black_turns (colour_of h x))
          (1 - black_turns (colour_of h x)) (omega arith) in
          omega (arith, two, first, second)
      go false off =
          let none = where_off (is_black_only (state_of h.shape x)) (1 - black_turns (colour_of h x)) 0 off in
          omega (arith, none, few_scans x)

-- nothing is started for a map of a zone that is not marking
pub maps_none : (h : HeapState) (p : Piles) (x : Place) → is_marking h.shape x ≡ false → map_starts h p x ≤ 0
maps_none h p x off = go (is_black_only (state_of h.shape x)) refl
  where
    go : (b : Bool) → is_black_only (state_of h.shape x) ≡ b → map_starts h p x ≤ 0
    go true only = absurd (let on = marks_black (state_of h.shape x) only in cc (on, off))
    go false none =
        let more = where_off (is_black_only (state_of h.shape x)) (1 - black_turns (colour_of h x)) 0 none in
        let scanned = where_off (is_marking h.shape x) (black_scans h p x + gray_scans h p x) 0 off in
        omega (arith, more, scanned)
