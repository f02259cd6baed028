-- A command raises what is to come by no more than the bound on units: six for an entry that is put with its map, or
-- the delegate of its key, in a zone of the collection, and one for a wrapper that is made in one.
use Rattle.std.proofs.Common.{◌≡◌, ◌≢◌, ◌⊎◌, ◌+◌, ◌-◌, ◌*◌, ◌<◌, ◌≤◌, ◌&&◌, ◌||◌, ◌==◌, ◌++◌, ℕ, zero, suc, Bool, true}
use Rattle.std.proofs.Common.{false, inl, inr, refl, sym, ap, ◌∙◌, subst, arith, List, [], ◌∷◌, length, count_by}
use Rattle.std.proofs.Common.{sum_by, Contains, IsSomeAnd, Option, None, Some, is_some, slice_get, if◌then◌else◌}
use Rattle.std.specs.Int.{bit_at}
use Rattle.std.specs.Option.{option_map}
use Rattle.std.proofs.lemmas.Bool.{cases_eq}
use Rattle.std.proofs.lemmas.List.{length-append, length-map}
use Rattle.std.proofs.lemmas.Nat.Bits.{bit_at-lt}
use Rattle.gz_names.specs.declared.commands.GraphCmd.{GraphCmd}
use Rattle.gz_names.specs.declared.commands.GraphCmd.TheVariants as cmd
use Rattle.gz_names.specs.declared.commands.Kind.{Kind}
use Rattle.gz_names.specs.declared.commands.Kind.TheVariants as kind
use Rattle.gz_names.specs.declared.names.Name.{Name}
use Rattle.gz_names.specs.declared.names.Name.TheVariants.{Cell, Wrap}
use Rattle.gz_names.specs.declared.numbers.CompNo.{CompNo}
use Rattle.gz_names.specs.declared.numbers.Place.{Place}
use Rattle.gz_names.specs.declared.replies.Reply.{Reply}
use Rattle.cell_bits.specs.declared.bits.Bits.{Bits}
use Rattle.cell_bits.specs.declared.bits.Colour.{Colour}
use Rattle.zones.specs.declared.states.State.{State}
use Rattle.zones.specs.declared.states.State.TheVariants as state
use Rattle.arena_table.specs.Cells.{CellState, field_of}
use Rattle.arena_table.specs.Indexed.{in_zones}
use Rattle.arena_table.specs.Table.{is_place}
use Rattle.mark_stack.specs.Stack.{Piles}
use Rattle.gray_lists.specs.Incoming.{Incoming}
use Rattle.weak_maps.specs.Delegates.{DelegateRow}
use Rattle.weak_maps.specs.WeakMaps.{AreParallel, IsSound as AreEntries, WeakTableState, value_of}
use Rattle.weak_maps.specs.declared.delegates.Delegate.{Delegate}
use Rattle.wrappers.specs.WrapperMaps.{WrappersState, list_of}
use Rattle.wrappers.specs.declared.wrapper_maps.WrapperKey.{WrapperKey}
use Rattle.colour_defs.specs.Graph.{GraphState, is_in_zones, register_cell}
use Rattle.colour_defs.specs.Units.{Tally, holds_delegate_in_zones, is_held_in_zones, unit_limit, with_put, with_woken}
use Rattle.heap_core.specs.declared.plans.Change.{Change}
use Rattle.heap_core.specs.declared.plans.Change.TheVariants as change
use Rattle.heap_core.specs.Shape.{ArenaShape, AreWhole, IsDelegate, IsPresent, Shape, cell_of, delegate_in}
use Rattle.heap_core.specs.Shape.{delegate_of_key, field_in, is_marking, is_marking_state, is_prepared, name_at}
use Rattle.heap_core.specs.Shape.{owner_in, state_in, state_of, state_or, wrapped_by, zone_of}
use Rattle.heap_core.specs.Heap.{HeapState, colour_in, colour_of, joined, reg_of, weak_of, with_flown, with_reg}
use Rattle.heap_core.specs.Heap.{with_slot}
use Rattle.heap_core.specs.Changes.{IsWith, IsWithout, Makes, Writes, with_comp, with_zone}
use Rattle.heap_core.specs.Effects.{Changes, HoldsWrapper, MakesHeld, Wraps}
use Rattle.heap_core.specs.Effects as effects
use Rattle.heap_core.specs.Lookups.{number_at, value_to_set}
use Rattle.heap_core.specs.Plans.{ChangesBy}
use Rattle.heap_core.proofs.MakingCells.{same-place}
use Rattle.barriers.specs.Invariant.{MarkingInvariant}
use Rattle.barriers.specs.Scans.{black_scans, black_turns, gray_scans, gray_turns}
use Rattle.barriers.specs.Spreading.{Covers}
use Rattle.marker.specs.Looks.{looks_now}
use Rattle.marker.specs.UnitsToCome.{is_black_only, map_starts, row_starts, scans, starts_of}
use Rattle.marker.proofs.UnitsToCome.{where_both, where_off}
use Rattle.zone_edges.specs.Looks.{cursor_of, left_below, left_to_look}
use Rattle.zone_edges.specs.Noted.{Noted}
use Rattle.weak_maps.specs.declared.entries.WeakEntry.{WeakEntry}
use Rattle.slice_driver.specs.Commands.{ComesTo, StayInPlace}
use Rattle.slice_driver.specs.Remaining.{steps_left, steps_of}
use Rattle.slice_driver.specs.Serves.{Serves}
use Rattle.slice_driver.specs.UnitsToCome.{is_wrapper_named, marking_to_come, may_be_noted, notes, present_places}
use Rattle.slice_driver.specs.Worlds.{owners_of}
use Rattle.slice_driver.proofs.abstraction.Moving.{Moves, finds, makes, quiet}
use Rattle.slice_driver.proofs.abstraction.Keeping.{stay_same}
use Rattle.slice_driver.proofs.basics.Woken.{made_black, others_keep}
use Rattle.slice_driver.proofs.measure.BornToCome.{IsBorn, born_notes, born_scans, few_maps, few_scans, maps_none}
use Rattle.slice_driver.proofs.measure.BornToCome.{maps_same, scans_same}
use Rattle.slice_driver.proofs.measure.EntriesToCome.{carried_looks, carried_rows, carried_starts, put_looks, put_rows}
use Rattle.slice_driver.proofs.measure.EntriesToCome.{put_starts, row_count}
use Rattle.slice_driver.proofs.measure.PresentPlaces.{present_no_more, sum_among, where_present}
use Rattle.slice_driver.proofs.measure.StatesToCome.{looks_to_come, present_by_name, to_come_grows}

-- an entry that is put with its map or its key's delegate in a zone of the collection brings six looks
abbrev pub more_looks : GraphState → List ℕ → GraphCmd → ℕ
more_looks g zones cmd.Zone = 0
more_looks g zones (cmd.Comp z) = 0
more_looks g zones (cmd.New r c n) = 0
more_looks g zones (cmd.Map r c) = 0
more_looks g zones (cmd.Get r s f) = 0
more_looks g zones (cmd.Set s f v) = 0
more_looks g zones (cmd.Wrap r s c) = 0
more_looks g zones (cmd.Unwrap r s) = 0
more_looks g zones (cmd.Copy r s) = 0
more_looks g zones (cmd.Drop r) = 0
more_looks g zones (cmd.Hold s r) = 0
more_looks g zones (cmd.Release s) = 0
more_looks g zones (cmd.Expose r s) = 0
more_looks g zones (cmd.Put m k v) = if is_held_in_zones g zones (register_cell g m)
    || holds_delegate_in_zones g zones (register_cell g k) then 6 else 0
more_looks g zones (cmd.Del m k) = 0
more_looks g zones (cmd.Find r m k) = 0

-- and a wrapper that is made in one is to be looked at
abbrev pub more_wrappers : GraphState → List ℕ → Option Name → ℕ
more_wrappers g zones None = 0
more_wrappers g zones (Some (Cell n)) = 0
more_wrappers g zones (Some (Wrap c n)) = if is_in_zones g zones (Wrap c n) then 1 else 0

-- so much the bound rises at least
put_limit : (g : GraphState) (zones : List ℕ) (t : Tally) (c : GraphCmd)
    → unit_limit t + more_looks g zones c ≤ unit_limit (with_put g zones c t)
put_limit g zones t cmd.Zone = omega arith
put_limit g zones t (cmd.Comp z) = omega arith
put_limit g zones t (cmd.New r c n) = omega arith
put_limit g zones t (cmd.Map r c) = omega arith
put_limit g zones t (cmd.Get r s f) = omega arith
put_limit g zones t (cmd.Set s f v) = omega arith
put_limit g zones t (cmd.Wrap r s c) = omega arith
put_limit g zones t (cmd.Unwrap r s) = omega arith
put_limit g zones t (cmd.Copy r s) = omega arith
put_limit g zones t (cmd.Drop r) = omega arith
put_limit g zones t (cmd.Hold s r) = omega arith
put_limit g zones t (cmd.Release s) = omega arith
put_limit g zones t (cmd.Expose r s) = omega arith
put_limit g zones t (cmd.Put m k v) =
    go (is_held_in_zones g zones (register_cell g m)) (holds_delegate_in_zones g zones (register_cell g k))
  where
    go : (a b : Bool) → unit_limit t + (if a || b then 6 else 0)
        ≤ unit_limit (record t { entries = t.entries + (if a || b then 1 else 0) })
    go true b = omega arith
    go false true = omega arith
    go false false = omega arith
put_limit g zones t (cmd.Del m k) = omega arith
put_limit g zones t (cmd.Find r m k) = omega arith

woken_limit : (g : GraphState) (zones : List ℕ) (t : Tally) (o : Option Name)
    → unit_limit t + more_wrappers g zones o ≤ unit_limit (with_woken g zones o t)
woken_limit g zones t None = omega arith
woken_limit g zones t (Some (Cell n)) = omega arith
woken_limit g zones t (Some (Wrap c n)) = go (is_in_zones g zones (Wrap c n))
  where
    go : (b : Bool) → unit_limit t + (if b then 1 else 0)
        ≤ unit_limit (record t { wrappers = t.wrappers + (if b then 1 else 0) })
    go true = omega arith
    go false = omega arith

pub limit_rises : (g : GraphState) (zones : List ℕ) (t : Tally) (c : GraphCmd) (o : Option Name)
    → unit_limit t + (more_looks g zones c + more_wrappers g zones o)
    ≤ unit_limit (with_woken g zones o (with_put g zones c t))
limit_rises g zones t c o =
    let put = put_limit g zones t c in
    let woken = woken_limit g zones (with_put g zones c t) o in
    omega (arith, put, woken)

-- what a key leads to came with it
pub delegate_is : (s : Shape) (key : Place) (d : Delegate) → delegate_of_key s key ≡ Some d → IsDelegate s key d.target
delegate_is s key d e = go (cell_of s key) refl e
  where
    by : (cell : CellState) → cell_of s key ≡ Some cell → (t : Kind) → cell.kind ≡ t → (o : Option Place)
        → field_of cell 0 ≡ o → wrapped_by t o (zone_of s key) ≡ Some d → IsDelegate s key d.target
    by cell at (kind.Object n) is o field e = absurd (cc e)
    by cell at kind.Map is o field e = absurd (cc e)
    by cell at kind.Wrapper is None field e = absurd (cc e)
    by cell at kind.Wrapper is (Some target) field e =
        let same : record { target = target; zone = zone_of s key } ≡ d = cc e in (
          ap (λ (o : Option CellState). option_map (λ (z : CellState). z.kind) o) at ∙ ap (λ (t : Kind). Some t) is,
          ap (λ (o : Option CellState). field_in o 0) at
              ∙ (field ∙ ap (λ (x : Delegate). Some x.target) same),
        )

    go : (o : Option CellState) → cell_of s key ≡ o → delegate_in o (zone_of s key) ≡ Some d
        → IsDelegate s key d.target
    go None at e = absurd (cc e)
    go (Some cell) at e = by cell at cell.kind refl (field_of cell 0) refl e

-- steps are no more, where each zone has the state that it had, though there may be more zones
pub steps_by_state : (xs ys : List State)
    → ((z : ℕ) → steps_of (state_or (slice_get xs z)) ≤ steps_of (state_or (slice_get ys z)))
    → steps_left xs ≤ steps_left ys
steps_by_state [] ys few = omega arith
steps_by_state (x ∷ xs) [] few =
    let first = few 0 in
    let rest = steps_by_state xs [] (λ z. few (suc z)) in
    omega (arith, first, rest)
steps_by_state (x ∷ xs) (y ∷ ys) few =
    let first = few 0 in
    let rest = steps_by_state xs ys (λ z. few (suc z)) in
    omega (arith, first, rest)

-- as many wrappers are to be looked at, where lists are as they were
pub left_same : (s t : Shape) (n : Noted) (k : ℕ) → ((z : ℕ) → z < k → list_of t.wrappers z ≡ list_of s.wrappers z)
    → left_below t n k ≡ left_below s n k
unfolding left_below
left_same s t n zero same = refl
left_same s t n (suc z) same =
    let rest = left_same s t n z (λ y lt. same y (omega (arith, lt))) in
    let here = ap (λ (es : List (WrapperKey × Place)).
    bit_at n.zones.bits z * (length es - cursor_of n z)) (same z (omega arith)) in
    omega (arith, rest, here)

-- and at most one more where the list of a zone has one more
left_grown : (s t : Shape) (n : Noted) (zone more : ℕ) (k : ℕ)
    → length (list_of t.wrappers zone) ≡ length (list_of s.wrappers zone) + 1
    → ((z : ℕ) → z ≢ zone → list_of t.wrappers z ≡ list_of s.wrappers z)
    → (zone < k → (if in_zones n.zones.bits zone then 1 else 0) ≤ more)
    → left_below t n k ≤ left_below s n k + more
unfolding left_below
left_grown s t n zone more zero grown others one = omega arith
left_grown s t n zone more (suc z) grown others one = elim (cases_eq z zone) [
  | inl is ↦ (let before = left_same s t n z (λ y lt. others y (λ e. omega (arith, lt, e, is))) in
      let most = one (omega (arith, is)) in
      let here = go (bit_at n.zones.bits zone) (length (list_of t.wrappers zone)) (length (list_of s.wrappers zone))
      (cursor_of n zone) (bit_at-lt n.zones.bits zone) grown in
      let now = ap (λ y. bit_at n.zones.bits y * (length (list_of t.wrappers y) - cursor_of n y)) is in
      let was = ap (λ y. bit_at n.zones.bits y * (length (list_of s.wrappers y) - cursor_of n y)) is in
      omega (arith, before, most, here, now, was))
  | inr ne ↦ (let rest = left_grown s t n zone more z grown others (λ lt. one (omega (arith, lt))) in
      let here = ap (λ (es : List (WrapperKey × Place)).
      bit_at n.zones.bits z * (length es - cursor_of n z)) (others z ne) in
      omega (arith, rest, here))
]
  where
    go : (b long short c : ℕ) → b < 2 → long ≡ short + 1
        → b * (long - c) ≤ b * (short - c) + (if b == 1 then 1 else 0)
    go zero long short c low longer = omega arith
    go (suc zero) long short c low longer = omega (arith, longer)
    go (suc (suc b)) long short c low longer = absurd (omega (arith, low))

-- the heap of a collector, and what a command made of it
module _ (m new : HeapState) (flying : ℕ → Option Bits) (stack : Piles) (lists : Incoming)
    (inv : MarkingInvariant (joined m flying) stack)
    (served : Serves (joined m flying) (joined new flying) stack lists) (sized : length m.colours
    ≡ length m.shape.arenas) (covers : Covers m.shape flying) where
  abbrev h : HeapState
  h = joined m flying

  abbrev k : HeapState
  k = joined new flying

  states_kept : (y : Place) → IsPresent m.shape y → state_of new.shape y ≡ state_of m.shape y
  states_kept y there = served.states (zone_of new.shape y) ∙ ap (state_in m.shape) (served.zones y there)

  marking_kept : (y : Place) → IsPresent m.shape y → is_marking new.shape y ≡ is_marking m.shape y
  marking_kept y there = ap is_marking_state (states_kept y there)

  length_owners : (xs : List ArenaShape) → length (owners_of xs) ≡ length xs
  length_owners xs = length-map xs (λ (a : ArenaShape). owner_in (Some a))

  -- no cell moved, and no colour changed
  module _ (stay : StayInPlace m.shape new.shape) (colours : new.colours ≡ m.colours) where
    colour_same : (y : Place) → colour_of k y ≡ colour_of h y
    colour_same y = ap (λ (bs : List Bits). colour_in (slice_get (with_flown flying 0 bs) y.0) y.1) colours

    as_many : length new.shape.arenas ≡ length m.shape.arenas
    as_many = sym (length_owners new.shape.arenas)
        ∙ (ap (λ (os : List (Option ℕ)). length os) stay.owners ∙ length_owners m.shape.arenas)

    stay_scans : (y : Place) → IsPresent m.shape y → scans k stack y ≤ scans h stack y
    stay_scans y there =
        let black : black_scans k stack y ≡ black_scans h stack y =
        ap (λ (c : Colour). black_turns c + count_by (is_place y) stack.black) (colour_same y) in
        let gray : gray_scans k stack y ≡ gray_scans h stack y =
        ap (λ (c : Colour). gray_turns c + count_by (is_place y) stack.gray) (colour_same y) in
        where_both (is_marking k.shape y) (is_marking h.shape y) (black_scans k stack y + gray_scans k stack y)
        (black_scans h stack y + gray_scans h stack y) (marking_kept y there) (omega (arith, black, gray))

    stay_maps : (y : Place) → IsPresent m.shape y → map_starts k stack y ≤ map_starts h stack y
    stay_maps y there =
        let colour : 1 - black_turns (colour_of k y) ≡ 1 - black_turns (colour_of h y) =
        ap (λ (c : Colour). 1 - black_turns c) (colour_same y) in
        let more = where_both (is_black_only (state_of k.shape y)) (is_black_only (state_of h.shape y))
        (1 - black_turns (colour_of k y)) (1 - black_turns (colour_of h y)) (ap is_black_only (states_kept y there))
        (omega (arith, colour)) in
        omega (arith, more, stay_scans y there)

    stay_notes : (y : Place) → IsPresent m.shape y → notes k stack y ≤ notes h stack y
    stay_notes y there =
        let gray : gray_scans k stack y ≡ gray_scans h stack y =
        ap (λ (c : Colour). gray_turns c + count_by (is_place y) stack.gray) (colour_same y) in
        let may : may_be_noted k.shape y ≡ may_be_noted h.shape y =
        ap (λ (b : Bool). b && is_wrapper_named (name_at k.shape y)) (marking_kept y there)
        ∙ ap (λ (o : Option Name). is_marking h.shape y && is_wrapper_named o) (stay.names y) in
        where_both (may_be_noted k.shape y) (may_be_noted h.shape y) (gray_scans k stack y) (gray_scans h stack y) may
        (omega (arith, gray))

    present_less : (f g : Place → ℕ) → ((y : Place) → IsPresent m.shape y → g y ≤ f y) → (y : Place)
        → where_present new.shape g y ≤ where_present m.shape f y
    present_less f g less y = go (is_some (cell_of m.shape y)) refl
      where
        go : (b : Bool) → is_some (cell_of m.shape y) ≡ b → where_present new.shape g y ≤ where_present m.shape f y
        go true there = where_both (is_some (cell_of new.shape y)) (is_some (cell_of m.shape y)) (g y) (f y)
            (present_by_name m.shape new.shape y (stay.names y)) (less y there)
        go false none = where_off (is_some (cell_of new.shape y)) (g y) (where_present m.shape f y)
            (present_by_name m.shape new.shape y (stay.names y) ∙ none)

    stay_cells : sum_by (scans k stack) (present_places k.shape) ≤ sum_by (scans h stack) (present_places h.shape)
    stay_cells = present_no_more m.shape new.shape (scans h stack) (scans k stack) as_many
        (present_less (scans h stack) (scans k stack) stay_scans)

    stay_noted : sum_by (notes k stack) (present_places k.shape) ≤ sum_by (notes h stack) (present_places h.shape)
    stay_noted = present_no_more m.shape new.shape (notes h stack) (notes k stack) as_many
        (present_less (notes h stack) (notes k stack) stay_notes)

  -- a cell came
  module _ (zone : ℕ) (p : Place) (x : Name) (cell : CellState) (between : HeapState)
      (comes : ComesTo m.shape new.shape zone p x) (mk : Makes m zone p cell between)
      (colours : new.colours ≡ between.colours) (calm : (z : ℕ) → is_prepared m.shape z ≡ false) where
    as_between : (q : Place) → colour_of k q ≡ colour_of (joined between flying) q
    as_between q = ap (λ (bs : List Bits). colour_in (slice_get (with_flown flying 0 bs) q.0) q.1) colours

    born : IsBorn h k stack p
    born = record {
      absent = comes.free;
      others = λ y ne. elim (same-place y p) [
        | inl here ↦ absurd (ne here.0)
        | inr away ↦ comes.names y ∙ ap (λ b. if b then Some x else name_at m.shape y) away.1
      ];
      states = states_kept;
      colours = λ y there. as_between y
          ∙ others_keep m zone p cell between flying mk covers sized y
          (λ e. comes.free (subst (λ q. IsPresent m.shape q) e there));
      black = as_between p ∙ made_black m zone p cell between flying mk covers sized (calm zone);
      off_black = λ has. comes.free (inv.holds.colours.seen_present p (inr (inv.holds.piles.black p has).0));
      off_gray = λ has. comes.free (inv.holds.colours.seen_present p (inv.holds.piles.gray p has));
    }

    grown : (length new.shape.arenas ≡ length m.shape.arenas)
        ⊎ (length new.shape.arenas ≡ suc (length m.shape.arenas))
    grown = go (p.0 == length m.shape.arenas) refl
      where
        now : length (owners_of new.shape.arenas) ≡ length
            (if p.0 == length m.shape.arenas then owners_of m.shape.arenas ++ Some zone ∷ [] else owners_of
            m.shape.arenas)
        now = ap (λ (os : List (Option ℕ)). length os) comes.owners

        go : (b : Bool) → (p.0 == length m.shape.arenas) ≡ b → (length new.shape.arenas ≡ length m.shape.arenas)
            ⊎ (length new.shape.arenas ≡ suc (length m.shape.arenas))
        go true is =
            let one = ap (λ b. length (if b then owners_of m.shape.arenas ++ Some zone ∷ [] else owners_of
            m.shape.arenas)) is in
            let more = length-append (owners_of m.shape.arenas) (Some zone ∷ []) in
            inr (omega (arith, now, one, more, length_owners new.shape.arenas, length_owners m.shape.arenas))
        go false is =
            let same = ap (λ b. length (if b then owners_of m.shape.arenas ++ Some zone ∷ [] else owners_of
            m.shape.arenas)) is in
            inl (omega (arith, now, same, length_owners new.shape.arenas, length_owners m.shape.arenas))

  -- what is present counts for no more, and neither do cells and wrappers
  pub record CountsNoMore : Type 0 where
    pub at : (y : Place) → IsPresent m.shape y → scans k stack y ≤ scans h stack y
    pub starts : (y : Place) → IsPresent m.shape y → map_starts k stack y ≤ map_starts h stack y
    pub cells : sum_by (scans k stack) (present_places k.shape) ≤ sum_by (scans h stack) (present_places h.shape)
    pub noted : sum_by (notes k stack) (present_places k.shape) ≤ sum_by (notes h stack) (present_places h.shape)

  pub counts : (c : GraphCmd) (ch : Change) → AreWhole m.shape.arenas → ((z : ℕ) → is_prepared m.shape z ≡ false)
      → Moves m c ch new → CountsNoMore
  counts c ch whole calm (quiet stay wakes colours reach) = record {
    at = stay_scans stay colours;
    starts = stay_maps stay colours;
    cells = stay_cells stay colours;
    noted = stay_noted stay colours;
  }
  counts c ch whole calm (finds p x named wakes colours arenas weak is_handed) =
      let stay = stay_same m.shape new.shape arenas whole in record {
        at = stay_scans stay colours;
        starts = stay_maps stay colours;
        cells = stay_cells stay colours;
        noted = stay_noted stay colours;
      }
  counts c ch whole calm (makes zone p x cell between comes wakes mk colours none_handed number) =
      let is = born zone p x cell between comes mk colours calm in
      let more = grown zone p x cell between comes mk colours calm in record {
        at = scans_same h k stack p is;
        starts = maps_same h k stack p is;
        cells = born_scans h k stack p is more;
        noted = born_notes h k stack p is more;
      }

  -- entries, rows and looks
  module _ (counted : CountsNoMore) (were : AreEntries m.shape.weak) (was_parallel : AreParallel (weak_of m))
      (g : GraphState) (zones : List ℕ) (held : (r : ℕ) (p : Place) → reg_of m r ≡ Some p → is_marking m.shape p ≡ true
      → is_held_in_zones g zones (register_cell g r) ≡ true) (delegated : (r : ℕ) (p : Place) (d : Delegate)
      → reg_of m r ≡ Some p → delegate_of_key m.shape p ≡ Some d → is_marking m.shape d.target ≡ true
      → holds_delegate_in_zones g zones (register_cell g r) ≡ true) (piled : (x : Place) → Contains stack.gray x
      → state_of m.shape x ≡ state.MarkBlackAndGray) where
    abbrev looks_then : ℕ
    looks_then = looks_to_come h stack

    abbrev looks_after : ℕ
    looks_after = looks_to_come k stack

    entry_present : (e : WeakEntry) → Contains m.shape.weak.entries e → IsPresent m.shape e.map
        × IsPresent m.shape e.key
    entry_present e has =
        let there = inv.holds.colours.shape.entries e.map e.key e.value ((were.found e.map e.key e.value).0 has) in
        (there.0, there.1)

    -- what a wrapper key leads to is present
    delegate_present : (key d : Place) → IsDelegate m.shape key d → IsPresent m.shape d
    delegate_present key d is = inv.holds.colours.shape.targets key d (0, omega arith, is.1)

    row_present : (r : DelegateRow) → Contains m.shape.weak.delegates.rows r → IsPresent m.shape r.target
    row_present r has =
        let value = were.entered r has in
        delegate_present r.key r.target
        ((inv.holds.colours.shape.delegates r.map r.key value.0 r.target value.1).1 (were.delegates.found r has))

    -- the entries that were there, and their rows
    starts_before : sum_by (starts_of k stack) m.shape.weak.entries ≤ sum_by (starts_of h stack) m.shape.weak.entries
    starts_before = sum_among (starts_of k stack) (starts_of h stack) m.shape.weak.entries
        (λ e has. (let there = entry_present e has in
        omega (arith, counted.starts e.map there.0, counted.at e.key there.1)))

    rows_before : sum_by (row_starts k stack) m.shape.weak.delegates.rows
        ≤ sum_by (row_starts h stack) m.shape.weak.delegates.rows
    rows_before = sum_among (row_starts k stack) (row_starts h stack) m.shape.weak.delegates.rows
        (λ r has. counted.at r.target (row_present r has))

    same_weak : new.looks ≡ m.looks → new.shape.weak ≡ m.shape.weak → looks_after ≤ looks_then + 0
    same_weak looks weak =
        let one = ap looks_now looks in
        let two = ap (λ (w : WeakTableState). sum_by (starts_of k stack) w.entries) weak in
        let three = ap (λ (w : WeakTableState). sum_by (row_starts k stack) w.delegates.rows) weak in
        omega (arith, one, two, three, starts_before, rows_before)

    same_all : (z : HeapState) → new ≡ z → z.looks ≡ m.looks → z.shape.weak ≡ m.shape.weak
        → looks_after ≤ looks_then + 0
    same_all z is looks weak = same_weak (ap (λ (x : HeapState). x.looks) is ∙ looks)
        (ap (λ (x : HeapState). x.shape.weak) is ∙ weak)

    held_weak : (r : ℕ) (kd : Kind) (c : CompNo) → MakesHeld m r kd c new
        → looks_after ≤ looks_then + 0
    held_weak r kd c made = same_weak
        (ap (λ (x : HeapState). x.looks) made.rest ∙ ap (λ (x : HeapState). x.looks) made.makes.rest)
        (ap (λ (x : HeapState). x.shape.weak) made.rest ∙ ap (λ (x : HeapState). x.shape.weak) made.makes.rest)

    wrapped_weak : (r s : ℕ) (c : CompNo) → Wraps m r s c new → looks_after ≤ looks_then + 0
    wrapped_weak r s c (effects.itself p at there is) = same_all (with_reg m r _) is refl refl
    wrapped_weak r s c (effects.found p q at there found is) = same_all (with_reg m r (Some q)) is refl refl
    wrapped_weak r s c (effects.made p at there none made) = same_weak
        (ap (λ (x : HeapState). x.looks) made.rest ∙ (ap (λ (x : HeapState). x.looks) made.makes.rest
        ∙ ap (λ (x : HeapState). x.looks) made.makes.makes.rest))
        (ap (λ (x : HeapState). x.shape.weak) made.rest ∙ (ap (λ (x : HeapState). x.shape.weak) made.makes.rest
        ∙ ap (λ (x : HeapState). x.shape.weak) made.makes.makes.rest))

    -- an entry was put: its map and its key lie in one zone
    put_weak : (rm rk : ℕ) (pm pk pv : Place) → reg_of m rm ≡ Some pm → reg_of m rk ≡ Some pk → IsPresent m.shape pm
        → IsPresent m.shape pk → zone_of m.shape pk ≡ zone_of m.shape pm → IsWith m pm pk pv new
        → looks_after ≤ looks_then + (if is_held_in_zones g zones (register_cell g rm)
        || holds_delegate_in_zones g zones (register_cell g rk) then 6 else 0)
    put_weak rm rk pm pk pv at_map at_key map_there key_there zone with_it =
        let looks = put_looks (value_of m.shape.weak pm pk) (delegate_of_key m.shape pk) m.looks new.looks with_it.left
        in
        let put = put_starts k stack m.shape.weak.entries pm pk pv in
        let same = ap (λ (es : List WeakEntry). sum_by (starts_of k stack) es) with_it.entries in
        let put_row = put_rows k stack m.shape.weak.delegates.rows (record { map = pm; key = pk })
        (delegate_of_key m.shape pk) (is_some (value_of m.shape.weak pm pk)) in
        let same_rows = ap (λ (rs : List DelegateRow). sum_by (row_starts k stack) rs) with_it.rows in
        let few = new_few (is_marking m.shape pm) refl in
        let row_few = one_row (delegate_of_key m.shape pk) refl in
        let both = four_and_two (is_held_in_zones g zones (register_cell g rm))
        (holds_delegate_in_zones g zones (register_cell g rk)) in
        omega (arith, looks, put, same, put_row, same_rows, few, row_few, both, starts_before, rows_before)
      where
        less : map_starts k stack pm + scans k stack pk ≤ map_starts h stack pm + scans h stack pk
        less = omega (arith, counted.starts pm map_there, counted.at pk key_there)

        new_few : (b : Bool) → is_marking m.shape pm ≡ b → map_starts k stack pm + scans k stack pk
            ≤ (if is_held_in_zones g zones (register_cell g rm) then 4 else 0)
        new_few true on =
            let four : ◌≡◌ {A = ℕ} (if is_held_in_zones g zones (register_cell g rm) then 4 else 0) 4 =
            ap (λ b. if b then 4 else 0) (held rm pm at_map on) in
            omega (arith, less, four, few_maps h stack inv.once piled pm, few_scans h stack inv.once piled pk)
        new_few false off =
            let key_off : is_marking m.shape pk ≡ false =
            ap (λ z. is_marking_state (state_in m.shape z)) zone ∙ off in
            let first = maps_none h stack pm off in
            let second = where_off (is_marking m.shape pk) (black_scans h stack pk + gray_scans h stack pk) 0
            key_off in
            omega (arith, less, first, second)

        row_few : (d : Delegate) → delegate_of_key m.shape pk ≡ Some d → IsPresent m.shape d.target → (b : Bool)
            → is_marking m.shape d.target ≡ b
            → scans k stack d.target ≤ (if holds_delegate_in_zones g zones (register_cell g rk) then 2 else 0)
        row_few d is there true on =
            let two : ◌≡◌ {A = ℕ} (if holds_delegate_in_zones g zones (register_cell g rk) then 2 else 0) 2 =
            ap (λ b. if b then 2 else 0) (delegated rk pk d at_key is on) in
            omega (arith, two, counted.at d.target there, few_scans h stack inv.once piled d.target)
        row_few d is there false off =
            let none = where_off (is_marking m.shape d.target)
            (black_scans h stack d.target + gray_scans h stack d.target) 0 off in
            omega (arith, none, counted.at d.target there)

        one_row : (o : Option Delegate) → delegate_of_key m.shape pk ≡ o → row_count k stack o
            ≤ (if holds_delegate_in_zones g zones (register_cell g rk) then 2 else 0)
        one_row None is = omega arith
        one_row (Some d) is = row_few d is (delegate_present pk d.target (delegate_is m.shape pk d is))
            (is_marking m.shape d.target) refl

        four_and_two : (a b : Bool) → (if a then 4 else 0) + (if b then 2 else 0) ≤ (if a || b then 6 else 0)
        four_and_two true true = omega arith
        four_and_two true false = omega arith
        four_and_two false true = omega arith
        four_and_two false false = omega arith

    del_weak : (pm pk : Place) → IsWithout m pm pk new → looks_after ≤ looks_then + 0
    del_weak pm pk without =
        let looks = carried_looks (weak_of m) (weak_of new) without.carries was_parallel without.parallel
        without.sound in
        let starts = carried_starts k stack (weak_of m) (weak_of new) without.carries without.sound in
        let rows = carried_rows k stack (weak_of m) (weak_of new) without.carries without.sound in
        omega (arith, looks, starts, rows, starts_before, rows_before)

    pub command_weak : (c : GraphCmd) → Changes m c new
        → ((rm rk : ℕ) (pm pk pv : Place) → reg_of m rm ≡ Some pm → reg_of m rk ≡ Some pk → IsWith m pm pk pv new
        → zone_of m.shape pk ≡ zone_of m.shape pm)
        → ((r : ℕ) (q : Place) → reg_of m r ≡ Some q → IsPresent m.shape q)
        → looks_after ≤ looks_then + more_looks g zones c
    command_weak cmd.Zone is one there = same_all (with_zone m) is refl refl
    command_weak (cmd.Comp z) is one there = same_all (with_comp m z) is refl refl
    command_weak (cmd.New r c n) is one there = held_weak r _ c is
    command_weak (cmd.Map r c) is one there = held_weak r _ c is
    command_weak (cmd.Get r s f) is one there = same_all (with_reg m r _) is refl refl
    command_weak (cmd.Set s f t) is one there = written (reg_of m s) is
      where
        written : (o : Option Place)
            → IsSomeAnd o (λ q. Writes m q f
            (value_to_set m t) new)
            → looks_after ≤ looks_then + 0
        written None w = absurd w
        written (Some q) w = same_weak (ap (λ (x : HeapState). x.looks) w.rest)
            (ap (λ (x : HeapState). x.shape.weak) w.rest)
    command_weak (cmd.Wrap r s c) is one there = wrapped_weak r s c is
    command_weak (cmd.Unwrap r s) is one there = same_all (with_reg m r _) is refl refl
    command_weak (cmd.Copy r s) is one there = same_all (with_reg m r _) is refl refl
    command_weak (cmd.Drop r) is one there = same_all (with_reg m r None) is refl refl
    command_weak (cmd.Hold s r) is one there = same_all (with_slot m s _) is refl refl
    command_weak (cmd.Release s) is one there = same_all (with_slot m s None) is refl refl
    command_weak (cmd.Expose r s) is one there = same_all (with_reg m r _) is refl refl
    command_weak (cmd.Put rm rk rv) is one there = go (reg_of m rm) (reg_of m rk) (reg_of m rv) refl refl is
      where
        go : (om ok ov : Option Place) → reg_of m rm ≡ om → reg_of m rk ≡ ok
            → IsSomeAnd om (λ pm. IsSomeAnd ok (λ pk. IsSomeAnd ov (λ pv. IsWith m pm pk pv new)))
            → looks_after ≤ looks_then + (if is_held_in_zones g zones (register_cell g rm)
            || holds_delegate_in_zones g zones (register_cell g rk) then 6 else 0)
        go None ok ov em ek w = absurd w
        go (Some pm) None ov em ek w = absurd w
        go (Some pm) (Some pk) None em ek w = absurd w
        go (Some pm) (Some pk) (Some pv) em ek w =
            put_weak rm rk pm pk pv em ek (there rm pm em) (there rk pk ek) (one rm rk pm pk pv em ek w) w
    command_weak (cmd.Del rm rk) is one there = go (reg_of m rm) (reg_of m rk) is
      where
        go : (om ok : Option Place) → IsSomeAnd om (λ pm. IsSomeAnd ok (λ pk. IsWithout m pm pk new))
            → looks_after ≤ looks_then + 0
        go None ok w = absurd w
        go (Some pm) None w = absurd w
        go (Some pm) (Some pk) w = del_weak pm pk w
    command_weak (cmd.Find r rm rk) is one there = same_all (with_reg m r _) is refl refl

  -- wrappers that are to be looked at, by the change
  abbrev LooksMore : Noted → ℕ → Type 0
  LooksMore n more = left_to_look new.shape n ≤ left_to_look m.shape n + more

  same_wrappers : (n : Noted) → new.shape.wrappers ≡ m.shape.wrappers → LooksMore n 0
  same_wrappers n same =
      let all = left_same m.shape new.shape n 64 (λ z lt. ap (λ (ws : WrappersState). list_of ws z) same) in
      omega (arith, all)

  wrapped : (r : ℕ) (c : CompNo) (t : Place) (n : Noted) (more : ℕ) (made : HoldsWrapper m r c t new)
      → (made.zone < 64 → (if in_zones n.zones.bits made.zone then 1 else 0) ≤ more) → LooksMore n more
  wrapped r c t n more made one =
      let lists = ap (λ (x : HeapState). x.shape.wrappers) made.rest in
      let here = ap (λ (ws : WrappersState). length (list_of ws made.zone)) lists in
      let listed = ap (λ (es : List (WrapperKey × Place)). length es) made.makes.listed in
      let longer = length-append (list_of m.shape.wrappers made.zone)
      ((record { comp = c.0; target = number_at m.shape t }, made.wrapper) ∷ []) in
      left_grown m.shape new.shape n made.zone more 64 (omega (arith, here, listed, longer))
      (λ z ne. ap (λ (ws : WrappersState). list_of ws z) lists ∙ made.makes.others z ne) one

  pub change_wrappers : (ch : Change) (answer : Reply) → ChangesBy m ch answer new → (n : Noted) (more : ℕ)
      → ((r z : ℕ) (c : CompNo) (t : Place) → ch ≡ change.Wrapper r z c t → (made : HoldsWrapper m r c t new)
      → made.zone < 64 → (if in_zones n.zones.bits made.zone then 1 else 0) ≤ more)
      → LooksMore n more
  change_wrappers ch answer by n more one = go ch by one
    where
      weaken : LooksMore n 0 → LooksMore n more
      weaken less = omega (arith, less)

      go : (y : Change) → ChangesBy m y answer new
          → ((r z : ℕ) (c : CompNo) (t : Place) → y ≡ change.Wrapper r z c t → (made : HoldsWrapper m r c t new)
          → made.zone < 64 → (if in_zones n.zones.bits made.zone then 1 else 0) ≤ more)
          → LooksMore n more
      go change.Zone is some = weaken (same_wrappers n (ap (λ (x : HeapState). x.shape.wrappers) is.0))
      go (change.Comp z) is some = weaken (same_wrappers n (ap (λ (x : HeapState). x.shape.wrappers) is.0))
      go (change.Cell r z c kd) is some = weaken (same_wrappers n
          (ap (λ (x : HeapState). x.shape.wrappers) is.0.rest
          ∙ ap (λ (x : HeapState). x.shape.wrappers) is.0.makes.rest))
      go (change.Wrapper r z c t) is some = wrapped r c t n more is.0 (some r z c t refl is.0)
      go (change.Register r v named) is some =
          weaken (same_wrappers n (ap (λ (x : HeapState). x.shape.wrappers) is.0))
      go (change.Slot s v) is some = weaken (same_wrappers n (ap (λ (x : HeapState). x.shape.wrappers) is.0))
      go (change.Field q f v) is some = weaken (same_wrappers n (ap (λ (x : HeapState). x.shape.wrappers) is.0.rest))
      go (change.Put pm pk pv) is some = weaken (same_wrappers n (ap (λ (x : HeapState). x.shape.wrappers) is.0.rest))
      go (change.Del pm pk) is some = weaken (same_wrappers n (ap (λ (x : HeapState). x.shape.wrappers) is.0.rest))

  -- what is to come of marking
  pub changed_marking : (c : GraphCmd) (more : ℕ) → CountsNoMore
      → looks_to_come k stack ≤ looks_to_come h stack + more
      → marking_to_come k stack lists ≤ marking_to_come h stack lists + more
  changed_marking c more counted looked =
      let waits = ap (λ (bs : List (List Place)). sum_by length bs) served.buffers in
      to_come_grows h stack lists k stack lists more counted.cells counted.noted looked (omega (arith, waits))
