-- The bound on the units that are left of a collection, by how much the heap holds.
use Rattle.std.proofs.Common.{◌≡◌, ◌≤◌, ◌-◌, ◌+◌, ◌||◌, ℕ, Bool, true, false, List, [], ◌∷◌, Option, Some}
use Rattle.std.proofs.Common.{None, is_some, slice_get, suc, refl, ap, ◌∙◌, arith}
use Rattle.std.specs.Prelude.{if◌then◌else◌}
use Rattle.cell_bits.specs.declared.bits.Bits.{Bits}
use Rattle.arena_table.specs.Indexed.{in_zones}
use Rattle.wrappers.specs.WrapperMaps.{AreApart}
use Rattle.weak_maps.specs.WeakMaps.{AreParallel, IsSound as AreEntries}
use Rattle.colour_defs.specs.World.{Collection}
use Rattle.heap_core.specs.Shape.{ArenaShape, Shape, is_marking_state, out_in, state_in}
use Rattle.heap_core.specs.Heap.{weak_of}
use Rattle.zone_edges.specs.Looks.{left_to_look}
use Rattle.slice_driver.specs.Bounds.{bound_of, grouping_bound, marking_bound, run_bound, units_bound}
use Rattle.slice_driver.specs.Collector.{CollectorState, RunState, heap_with}
use Rattle.slice_driver.specs.Left.{marking_left, starting_left, units_left}
use Rattle.slice_driver.specs.Remaining.{arenas_left, clearing_left, grouping_left, left_of, ungrouped_below}
use Rattle.slice_driver.specs.Represents.{IsIdle, Represents, RepresentsMarking, RepresentsPreparing, RunsAs, going}
use Rattle.slice_driver.specs.Represents.{prepared}
use Rattle.slice_driver.specs.Units.{IsSound}
use Rattle.slice_driver.specs.UnitsToCome.{units_to_come}
use Rattle.slice_driver.proofs.abstraction.Phases.{nothing_to_clear}
use Rattle.slice_driver.proofs.abstraction.Waits.{none_in_it}
use Rattle.slice_driver.proofs.clearing.Few.{few_owned}
use Rattle.slice_driver.proofs.clearing.ToCome.{NothingMarks, none_marking, none_steps, to_come_is}
use Rattle.slice_driver.proofs.measure.CountedWrappers.{few_listed, left_listed}
use Rattle.slice_driver.proofs.measure.FewUnits.{few_arenas, few_marks, few_present, few_steps, few_ungrouped}

-- what the heap keeps in order
pub record AreInOrder (c : CollectorState) : Type 0 where
  pub parallel : AreParallel (weak_of c.heap)
  pub entries : AreEntries c.heap.shape.weak
  pub apart : AreApart c.heap.shape.wrappers.lists

-- no arena is out or of a marking zone
none_left : (s : Shape) (arenas : List ArenaShape) → ((z : ℕ) → is_marking_state (state_in s z) ≡ false)
    → ((a : ℕ) → out_in (slice_get arenas a) ≡ None) → arenas_left s arenas ≡ 0
none_left s [] off out = refl
none_left s (arena ∷ arenas) off out =
    let here : ◌≡◌ {A = ℕ} (if is_some arena.out || is_marking_state (state_in s arena.zone) then 1 else 0) 0 =
    ap (λ (o : Option Bits). if is_some o || is_marking_state (state_in s arena.zone) then 1 else 0) (out 0)
    ∙ ap (λ (b : Bool). if b then 1 else 0) (off arena.zone) in
    let rest = none_left s arenas off (λ a. out (suc a)) in
    omega (arith, here, rest)

module _ (c : CollectorState) (flown : ℕ → Option Bits) (sound : IsSound c flown) (order : AreInOrder c)
    (m : RepresentsMarking c flown sound.world) where
  -- no more wrappers are to be looked at than there are slots
  few_groupings : (run : RunState) → run.clearing ≡ None
      → grouping_left c.heap.shape c.edges (Some run) ≤ (if run.formed then 0 else grouping_bound c.heap)
  few_groupings run started =
      let same : grouping_left c.heap.shape c.edges (Some run)
      ≡ (if run.formed || false then 0 else left_to_look c.heap.shape c.edges + ungrouped_below c.edges 64) =
      ap (λ (u : Option _). if run.formed || is_some u then 0 else left_to_look c.heap.shape c.edges
      + ungrouped_below c.edges 64) started in
      let most = by run.formed in
      omega (arith, same, most)
    where
      by : (b : Bool) → (if b || false then 0 else left_to_look c.heap.shape c.edges + ungrouped_below c.edges 64)
          ≤ (if b then 0 else grouping_bound c.heap)
      by true = omega arith
      by false =
          let looks = left_listed c.heap.shape c.edges 64 in
          let listed = few_listed c.heap sound.world m.placed.lies order.apart (in_zones c.edges.zones.bits) (λ x. true)
          (λ z x has is wrapper. refl) 64 in
          let present = few_present c.heap.shape in
          let zones = few_ungrouped c.edges 64 in
          omega (arith, looks, listed, present, zones)

  idle_bounded : IsIdle c → c.run ≡ None → units_left c flown ≤ 0
  unfolding units_to_come
  idle_bounded i none =
      let nothing : NothingMarks (heap_with c flown) c.lists = record {
        off = λ z. ap is_marking_state (i.states z);
        looks = m.coloured.waits.looks (λ z. ap is_marking_state (i.states z));
        buffered = λ z. m.coloured.waits.buffered z (ap is_marking_state (i.states z));
        incoming = λ n. none_in_it _ (λ x on.
            let marks = m.coloured.waits.incoming n x on in
            let on = marks.2 in
            let off = ap is_marking_state (i.states marks.0) in
            cc (on, off));
      } in
      let cleared = nothing_to_clear c flown sound.world m in
      let marking = none_marking (heap_with c flown) c.stack c.lists nothing in
      let steps = none_steps (heap_with c flown) c.stack c.lists nothing in
      let grouping = ap (grouping_left c.heap.shape c.edges) none in
      let arenas = none_left c.heap.shape c.heap.shape.arenas (λ z. ap is_marking_state (i.states z)) i.kept in
      omega (arith, cleared.0, cleared.1, marking, steps, grouping, arenas)

  running_bounded : (run : RunState) → c.run ≡ Some run → run.clearing ≡ None
      → units_left c flown ≤ marking_bound c.heap + (if run.formed then 0 else grouping_bound c.heap)
  unfolding units_to_come
  running_bounded run is started =
      let cleared = nothing_to_clear c flown sound.world m in
      let gray = m.coloured.gray.few in
      let sized = m.coloured.marks.holds.colours.sized in
      let marks = few_marks (heap_with c flown) c.stack c.lists m.coloured.marks.once order.parallel order.entries in
      let same = ap (grouping_left c.heap.shape c.edges) is in
      let grouping = few_groupings run started in
      let steps = few_steps c.heap.shape.states in
      let arenas = few_arenas c.heap.shape c.heap.shape.arenas in
      omega (arith, cleared.0, cleared.1, gray, sized, marks, same, grouping, steps, arenas)

  going_bounded : units_left c flown ≤ units_bound c
  going_bounded = by c.run sound.world.collection refl m.phase.runs
    where
      by : (o : Option RunState) (k : Option Collection) → c.run ≡ o
          → RunsAs (heap_with c flown) c sound.world o k → units_left c flown ≤ units_bound c
      by None None is i =
          let none = idle_bounded i is in
          let bound = ap (λ (r : Option RunState). bound_of c.heap r) is in
          omega (arith, none, bound)
      by None (Some k) is i = absurd i
      by (Some r) None is i = absurd i
      by (Some r) (Some k) is i =
          let most = running_bounded r is i.started in
          let bound = ap (λ (o : Option RunState). bound_of c.heap o) is
          ∙ ap (run_bound c.heap r) i.started in
          omega (arith, most, bound)

preparing_bounded : (c : CollectorState) (flown : ℕ → Option Bits) (sound : IsSound c flown)
    → RepresentsPreparing c flown sound.world → units_left c flown ≤ units_bound c
preparing_bounded c flown sound p =
    let to_come = to_come_is c flown sound.world p in
    let left = ap (clearing_left c.heap.shape) p.run_is ∙ ap (left_of c.heap.shape p.run.zones) p.clearing in
    let start = ap (marking_left c.heap.shape) p.run_is ∙ ap (starting_left c.heap.shape) p.clearing in
    let owned = few_owned c.heap.shape p.run.zones.bits p.uncleared.from (p.uncleared.end - p.uncleared.from) in
    let arenas = few_arenas c.heap.shape c.heap.shape.arenas in
    let bound = ap (λ (o : Option RunState). bound_of c.heap o) p.run_is
    ∙ ap (run_bound c.heap p.run) p.clearing in
    omega (arith, to_come, left, start, owned, arenas, bound)

-- no more units are left
pub units_bounded : (c : CollectorState) → AreInOrder c → (flown : ℕ → Option Bits) → IsSound c flown
    → units_left c flown ≤ units_bound c
units_bounded c order flown sound = by sound.represents
  where
    by : Represents c flown sound.world → units_left c flown ≤ units_bound c
    by (going m) = going_bounded c flown sound order m
    by (prepared p) = preparing_bounded c flown sound p
