use Rattle.std.proofs.Common.{◌≡◌, [], IfOk, IsSome, ap, refl, sym, subst, arith}
use Rattle.heap_core.specs.Heap.{joined, without_delayed}
use Rattle.barriers.specs.Pending.{pending}
use Rattle.barriers.specs.Colours.{grays_outside}
use Rattle.slice_driver.specs.Collector.{CollectorState, heap_with}
use Rattle.slice_driver.specs.Quiet.{IsStarted}
use Rattle.slice_driver.specs.Units.{IsSoundMarking}
use Rattle.slice_driver.specs.Working.{DidOrStill}
use Rattle.slice_driver.specs.contracts.collector.Collector.{the_view}
use Rattle.slice_driver.proofs.abstraction.Phases.{none_started, sound_marking}
use Rattle.slice_driver.proofs.clearing.AtStart.{started_by}
use Rattle.slice_driver.proofs.marking.MarkingUnits.{ahead_tried}
use Rattle.slice_driver.proofs.marking.Views.{unmarked_seen}
use Rattle.slice_driver.proofs.collector.Collector.mark_two.Given.{Over}
use Rattle.slice_driver.proofs.collector.Collector.mark_two.Goals as goal
use Rattle.slice_driver.proofs.collector.Collector.mark_two.Goals.{In_default}

-- marking has begun
sound : (g : Over) (c : In_default g) → IsSoundMarking (the_view c.self.inside) (g.F.Flight.bits c.args.flight.now)
sound g c =
    let now = c.args.self.now in
    let flown = g.F.Flight.bits c.args.flight.now in
    let started : IsStarted now = started_by now c.self.inside.phase
    (ap (λ (x : CollectorState). x.run) (sym c.self.view_is)) c.requires.running c.in_default.not-Preparing in
    subst (λ (x : CollectorState). IsSoundMarking x flown) (sym c.self.view_is)
    (sound_marking now flown (λ w. none_started now flown w started) c.requires.sound)

pub mark_ahead-requires-clause-whole : goal.mark_ahead-requires-clause-whole
mark_ahead-requires-clause-whole g c =
    (sound g (goal.at.mark_ahead-requires-clause-whole g c).In_default).represents.placed.lies.whole

pub mark_ahead-requires-clause-invariant : goal.mark_ahead-requires-clause-invariant
mark_ahead-requires-clause-invariant g c =
    (sound g (goal.at.mark_ahead-requires-clause-invariant g c).In_default).represents.coloured.marks

pub returns-clause-done : goal.returns-clause-done
returns-clause-done g c =
    let view = the_view c.self.inside in
    let flown = g.F.Flight.bits c.args.flight.now in
    let flying = g.F.Flight.bits c.mark_ahead.new.flight in
    let after : CollectorState = record view {
      heap = without_delayed c.mark_ahead.new.heap;
      stack = pending c.mark_ahead.new.heap c.mark_ahead.new.stack;
    } in
    let running = subst (λ (x : CollectorState). IsSome x.run) (sym c.self.view_is) c.requires.running in
    subst (λ (x : CollectorState). IfOk c.mark_ahead.result (λ did. DidOrStill did (x.stack.black ≡ []) x flown after
    flying)) c.self.view_is
    (ahead_tried view flown flying after.heap after.stack (sound g (goal.at.returns-clause-done g c).In_default) running
    refl c.mark_ahead.result c.mark_ahead.ensures.covers c.mark_ahead.ensures.does c.mark_ahead.ensures.empty
    (λ is. let same = c.mark_ahead.ensures.same is in
    unmarked_seen c.self.inside.heap c.mark_ahead.new.heap c.self.inside.stack c.mark_ahead.new.stack flown flying
    same.0 same.1 (ap (λ f. joined c.self.inside.heap (g.F.Flight.bits f)) same.2)))

pub returns-clause-steps : goal.returns-clause-steps
returns-clause-steps g c =
    let grays = ap (λ (x : CollectorState). grays_outside (heap_with x (g.F.Flight.bits c.args.flight.now)))
    c.self.view_is in
    let few = c.mark_ahead.ensures.steps in
    omega (arith, few, grays)
