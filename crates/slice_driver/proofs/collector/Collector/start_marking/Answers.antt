use Rattle.std.proofs.Common.{◌≡◌, ◌<◌, Some, sym, subst, rules}
use Rattle.gz_names.specs.Zones.{HasZone}
use Rattle.gz_names.proofs.Words.{HasZone-none}
use Rattle.weak_maps.specs.WeakMaps.{IsSound as AreEntries}
use Rattle.wrappers.specs.WrapperMaps.{AreApart}
use Rattle.mark_stack.specs.Stack.{Piles}
use Rattle.heap_core.specs.Heap.{without_delayed}
use Rattle.barriers.specs.Pending.{pending}
use Rattle.slice_driver.specs.Collector.{CollectorState}
use Rattle.slice_driver.specs.Preparing.{StartsMarking}
use Rattle.slice_driver.specs.Units.{IsSound}
use Rattle.slice_driver.specs.Working.{IsAtStart}
use Rattle.slice_driver.specs.contracts.collector.Collector.{the_view}
use Rattle.slice_driver.proofs.group_end.Steps.{small_word}
use Rattle.slice_driver.proofs.beginning.Begun.{AreEdgesNone, run_begun}
use Rattle.slice_driver.proofs.beginning.BegunSteps.{AreRegistersMarked, AreRootsMarked, buffers_seen, held_begun}
use Rattle.slice_driver.proofs.beginning.BegunSteps.{made_marked, may_gather, nothing_buffered, ready_begun}
use Rattle.slice_driver.proofs.beginning.BegunSteps.{ready_marked, ready_seen, registers_seen, slots_held, some_zone}
use Rattle.slice_driver.proofs.beginning.BegunSteps.{starting, starts_marking, wrappers_marked}
use Rattle.slice_driver.proofs.marking.Views.{advanced_pending, advances_seen}
use Rattle.slice_driver.proofs.collector.Collector.start_marking.Given.{Over}
use Rattle.slice_driver.proofs.collector.Collector.start_marking.Goals as goal
use Rattle.slice_driver.proofs.collector.Collector.start_marking.Goals.{After-mark_registers, After-mark_targets}
use Rattle.slice_driver.proofs.collector.Collector.start_marking.Goals.{After-start}

pub few_wrappers_law-requires : goal.few_wrappers_law-requires
few_wrappers_law-requires g c = c.requires.sound

pub buffer_gray_roots-requires-clause-held : goal.buffer_gray_roots-requires-clause-held
buffer_gray_roots-requires-clause-held g c =
    slots_held (the_view c.self.inside) c.args.zones
    (starting (the_view c.self.inside) c.args.self.now c.args.zones c.self.view_is c.requires.start.0 c.requires.start.1
    c.requires.sound.0 c.requires.sound.1)

pub buffer_gray_roots-requires-clause-gather : goal.buffer_gray_roots-requires-clause-gather
buffer_gray_roots-requires-clause-gather g c =
    let gather = may_gather (the_view c.self.inside) c.args.zones
    (starting (the_view c.self.inside) c.args.self.now c.args.zones c.self.view_is c.requires.start.0 c.requires.start.1
    c.requires.sound.0 c.requires.sound.1) (search rules) in
    record { wrappers = gather.wrappers; sized = gather.sized; few = gather.few }

pub buffer_gray_roots-requires-clause-empty : goal.buffer_gray_roots-requires-clause-empty
buffer_gray_roots-requires-clause-empty g c =
    nothing_buffered (the_view c.self.inside) c.args.zones
    (starting (the_view c.self.inside) c.args.self.now c.args.zones c.self.view_is c.requires.start.0 c.requires.start.1
    c.requires.sound.0 c.requires.sound.1)

-- gray roots were buffered, and the cells of registers were marked
registers : (g : Over) (c : After-mark_registers g) → AreRegistersMarked (the_view c.self.inside) c.args.zones
    (without_delayed c.mark_registers.new.heap) (pending c.mark_registers.new.heap c.mark_registers.new.stack)
registers g c = record {
  before = without_delayed c.buffer_gray_roots.new.heap;
  buffered = record {
    starting = starting (the_view c.self.inside) c.args.self.now c.args.zones c.self.view_is c.requires.start.0
        c.requires.start.1 c.requires.sound.0 c.requires.sound.1;
    put = buffers_seen c.self.inside.heap c.args.zones c.buffer_gray_roots.new.heap
        c.in_ok-buffer_gray_roots.ensures.ok;
  };
  marks = registers_seen c.self.inside.heap c.args.zones c.buffer_gray_roots.new.heap
      c.in_ok-buffer_gray_roots.ensures.ok c.self.inside.stack _ _ _ c.mark_registers.ensures;
}

-- and the targets of black wrappers
roots : (g : Over) (c : After-mark_targets g) → AreRootsMarked (the_view c.self.inside) c.args.zones
    (without_delayed c.mark_targets.new.heap) (pending c.mark_targets.new.heap c.mark_targets.new.stack)
roots g c = record {
  between = without_delayed c.mark_registers.new.heap;
  stack = pending c.mark_registers.new.heap c.mark_registers.new.stack;
  registers = registers g c.before.before.before.before;
  marks = c.mark_targets.ensures;
}

pub mark_registers-requires-clause-held : goal.mark_registers-requires-clause-held
mark_registers-requires-clause-held g c =
    held_begun (the_view c.self.inside) c.args.zones (without_delayed c.buffer_gray_roots.new.heap)
    (record {
      starting = starting (the_view c.self.inside) c.args.self.now c.args.zones c.self.view_is c.requires.start.0
          c.requires.start.1 c.requires.sound.0 c.requires.sound.1;
      put = buffers_seen c.self.inside.heap c.args.zones c.buffer_gray_roots.new.heap
          c.in_ok-buffer_gray_roots.ensures.ok;
    })

pub mark_registers-requires-clause-ready : goal.mark_registers-requires-clause-ready
mark_registers-requires-clause-ready g c =
    ready_seen c.self.inside.heap c.args.zones c.buffer_gray_roots.new.heap c.in_ok-buffer_gray_roots.ensures.ok
    c.self.inside.stack
    (ready_begun (the_view c.self.inside) c.args.zones (without_delayed c.buffer_gray_roots.new.heap)
    (record {
      starting = starting (the_view c.self.inside) c.args.self.now c.args.zones c.self.view_is c.requires.start.0
          c.requires.start.1 c.requires.sound.0 c.requires.sound.1;
      put = buffers_seen c.self.inside.heap c.args.zones c.buffer_gray_roots.new.heap
          c.in_ok-buffer_gray_roots.ensures.ok;
    }))

pub mark_targets-requires-clause-ready : goal.mark_targets-requires-clause-ready
mark_targets-requires-clause-ready g c =
    ready_marked _ _ _ _ (registers g (goal.at.mark_targets-requires-clause-ready g c).After-mark_registers)

pub mark_targets-requires-clause-wrappers : goal.mark_targets-requires-clause-wrappers
mark_targets-requires-clause-wrappers g c =
    wrappers_marked _ _ _ _ (registers g (goal.at.mark_targets-requires-clause-wrappers g c).After-mark_registers)

pub advance_all-requires : goal.advance_all-requires
advance_all-requires g c =
    record { made = made_marked _ _ _ _ (roots g (goal.at.advance_all-requires g c).After-mark_targets) }

pub invariant_of-self-2 : goal.invariant_of-self-2
invariant_of-self-2 g c = record {
  waiting = λ z. (
    (λ has. (has, λ st. HasZone-none z (subst (λ word. HasZone word z) c.start.ensures.stepped st))),
    λ both. both.0,
  );
  some = some_zone (the_view c.self.inside) c.args.zones
      (starting (the_view c.self.inside) c.args.self.now c.args.zones c.self.view_is c.requires.start.0
      c.requires.start.1 c.requires.sound.0 c.requires.sound.1);
}

-- the collector after the call
abbrev after : (g : Over) → After-start g → CollectorState
after g c = record (the_view c.self.inside) {
  heap = without_delayed c.advance_all.new.heap;
  stack = pending c.advance_all.new.heap c.mark_targets.new.stack;
  edges = c.start.new.self;
  run = Some (run_begun c.args.zones);
}

fresh : (g : Over) (c : After-start g) → AreEdgesNone c.args.zones c.start.new.self
fresh g c = record {
  are = c.start.ensures.zones;
  none = c.start.ensures.edges;
  start = c.start.ensures.cursors;
  fresh = c.start.ensures.stepped;
}

pub returns-clause-done : goal.returns-clause-done
returns-clause-done g c =
    let at = (goal.at.returns-clause-done g c).After-start in
    let view : CollectorState = the_view c.self.inside in
    let fits : c.args.zones.bits < 18446744073709551616 = search rules in
    let marked = roots g (goal.at.returns-clause-done g c).After-mark_targets in
    let on = advances_seen c.mark_targets.new.heap c.args.zones.bits c.advance_all.new.heap c.advance_all.ensures in
    let one_pile = advanced_pending c.mark_targets.new.heap c.args.zones.bits c.advance_all.new.heap
    c.advance_all.ensures c.mark_targets.new.stack in
    let start : (s : IsAtStart view) × (s.run.zones ≡ c.args.zones) =
    subst (λ (x : CollectorState). (s : IsAtStart x) × (s.run.zones ≡ c.args.zones)) (sym c.self.view_is)
    c.requires.start in
    λ flown sound.
    subst (λ (s : CollectorState). StartsMarking s flown c.args.zones (after g at)) c.self.view_is
    (subst (λ (p : Piles). StartsMarking view flown c.args.zones (record (after g at) { stack = p })) one_pile
    (starts_marking view c.args.zones _ _ marked c.start.new.self (fresh g at) _ on start.0 start.1
    (small_word c.args.zones.bits fits)
    (subst (λ (s : CollectorState). AreEntries s.heap.shape.weak) (sym c.self.view_is) c.entries_law.ensures.sound)
    (subst (λ (s : CollectorState). AreApart s.heap.shape.wrappers.lists) (sym c.self.view_is) c.wrappers_law.ensures)
    flown (subst (λ (s : CollectorState). IsSound s flown) (sym c.self.view_is) sound)))
