use Rattle.std.proofs.Common.{◌≡◌, [], Bool, IsSome, false, true, refl, sym, ap, subst, arith}
use Rattle.weak_maps.specs.WeakMaps.{NoneLeft}
use Rattle.weak_maps.specs.declared.colours.MarkColour.TheVariants as mark
use Rattle.heap_core.specs.Heap.{joined, without_delayed}
use Rattle.barriers.specs.Pending.{pending}
use Rattle.barriers.specs.Colours.{grays_outside}
use Rattle.slice_driver.specs.Collector.{CollectorState, heap_with}
use Rattle.slice_driver.specs.Units.{IsSoundMarking}
use Rattle.slice_driver.specs.Working.{DidOrStill, IsBlackDone}
use Rattle.slice_driver.specs.contracts.collector.Collector.{the_view}
use Rattle.slice_driver.proofs.marking.Followed.{one_followed}
use Rattle.slice_driver.proofs.marking.MarkingUnits.{black_tried, look_tried, still_looked}
use Rattle.slice_driver.proofs.marking.MarkingUnits.{still_marking, then_marks, tries_few}
use Rattle.slice_driver.proofs.marking.Views.{unmarked_seen}
use Rattle.slice_driver.proofs.collector.Collector.marks_black.Given.{Over}
use Rattle.slice_driver.proofs.collector.Collector.marks_black.Goals as goal
use Rattle.slice_driver.proofs.collector.Collector.marks_black.Goals.{After-black_unit, After-weak_unit}

-- the collector after the cell was tried, and after the entry was
abbrev followed : (g : Over) → After-black_unit g → CollectorState
followed g c = record (the_view c.self.inside) {
  heap = without_delayed c.black_unit.new.heap;
  stack = pending c.black_unit.new.heap c.black_unit.new.stack;
}

abbrev looked : (g : Over) → After-weak_unit g → CollectorState
looked g c = record (the_view c.self.inside) {
  heap = without_delayed c.weak_unit.new.heap;
  stack = pending c.weak_unit.new.heap c.weak_unit.new.stack;
}

sound : (g : Over) (c : After-black_unit g) → IsSoundMarking (the_view c.self.inside)
    (g.F.Flight.bits c.args.flight.now)
sound g c = subst (λ (x : CollectorState). IsSoundMarking x (g.F.Flight.bits c.args.flight.now)) (sym c.self.view_is)
    c.requires.sound

running : (g : Over) (c : After-black_unit g) → IsSome (the_view c.self.inside).run
running g c = subst (λ (x : CollectorState). IsSome x.run) (sym c.self.view_is) c.requires.running

cell : (g : Over) (c : After-black_unit g) → DidOrStill c.black_unit.result ((the_view c.self.inside).stack.black ≡ [])
    (the_view c.self.inside) (g.F.Flight.bits c.args.flight.now) (followed g c)
    (g.F.Flight.bits c.black_unit.new.flight)
cell g c = black_tried (the_view c.self.inside) (g.F.Flight.bits c.args.flight.now)
    (g.F.Flight.bits c.black_unit.new.flight) (followed g c).heap (followed g c).stack (sound g c) (running g c) refl
    c.black_unit.result c.black_unit.ensures.covers
    (λ did. one_followed (heap_with (the_view c.self.inside) (g.F.Flight.bits c.args.flight.now))
    (the_view c.self.inside).stack
    (joined (followed g c).heap (g.F.Flight.bits c.black_unit.new.flight)) (followed g c).stack
    (sound g c).represents.placed.lies.whole (sound g c).represents.coloured.marks (c.black_unit.ensures.does did))
    c.black_unit.ensures.empty
    (λ is. let same = c.black_unit.ensures.same is in
    unmarked_seen c.self.inside.heap c.black_unit.new.heap c.self.inside.stack c.black_unit.new.stack
    (g.F.Flight.bits c.args.flight.now) (g.F.Flight.bits c.black_unit.new.flight) same.0 same.1 same.2)

-- no cell is pending in black
none : (g : Over) (c : After-black_unit g) → c.black_unit.result ≡ false
    → DidOrStill false ((the_view c.self.inside).stack.black ≡ []) (the_view c.self.inside)
    (g.F.Flight.bits c.args.flight.now) (followed g c) (g.F.Flight.bits c.black_unit.new.flight)
none g c is = subst (λ (did : Bool). DidOrStill did ((the_view c.self.inside).stack.black ≡ [])
    (the_view c.self.inside) (g.F.Flight.bits c.args.flight.now) (followed g c)
    (g.F.Flight.bits c.black_unit.new.flight)) is (cell g c)

still : (g : Over) (c : After-black_unit g) → c.black_unit.result ≡ false → IsSoundMarking (followed g c)
    (g.F.Flight.bits c.black_unit.new.flight)
still g c is = still_marking (the_view c.self.inside) (g.F.Flight.bits c.args.flight.now) (followed g c)
    (g.F.Flight.bits c.black_unit.new.flight) (none g c is).0 (sound g c)

pub weak_unit-requires-clause-invariant : goal.weak_unit-requires-clause-invariant
weak_unit-requires-clause-invariant g c =
    (still g (goal.at.weak_unit-requires-clause-invariant g c).After-black_unit
    c.if-black_unit.false).represents.coloured.marks

pub returns-then-black_unit-clause-done : goal.returns-then-black_unit-clause-done
returns-then-black_unit-clause-done g c =
    let at = (goal.at.returns-then-black_unit-clause-done g c).After-black_unit in
    let flown = g.F.Flight.bits c.args.flight.now in
    let f1 = g.F.Flight.bits c.black_unit.new.flight in
    let did = subst (λ (b : Bool). DidOrStill b ((the_view c.self.inside).stack.black ≡ []) (the_view c.self.inside)
    flown (followed g at) f1) c.if-black_unit.true (cell g at) in
    subst (λ (x : CollectorState). DidOrStill true (IsBlackDone x flown) x flown (followed g at) f1) c.self.view_is
    (did.0, λ done. did.1 done.pile)

pub returns-clause-done : goal.returns-clause-done
returns-clause-done g c =
    let at = (goal.at.returns-clause-done g c).After-weak_unit in
    let first = (goal.at.returns-clause-done g c).After-black_unit in
    let view = the_view c.self.inside in
    let flown = g.F.Flight.bits c.args.flight.now in
    let f1 = g.F.Flight.bits c.black_unit.new.flight in
    let f2 = g.F.Flight.bits c.weak_unit.new.flight in
    let before = none g first c.if-black_unit.false in
    let same = still_looked view flown (followed g first) f1 before.0 mark.Black in
    let entry = look_tried (followed g first) f1 f2 (looked g at).heap (looked g at).stack
    (still g first c.if-black_unit.false) (running g first) refl mark.Black c.weak_unit.result
    c.weak_unit.ensures.covers c.weak_unit.ensures.does c.weak_unit.ensures.empty
    (λ is. let same = c.weak_unit.ensures.same is in
    unmarked_seen c.black_unit.new.heap c.weak_unit.new.heap c.black_unit.new.stack c.weak_unit.new.stack f1
    (g.F.Flight.bits c.weak_unit.new.flight) same.0 same.1 same.2) in
    subst (λ (x : CollectorState). DidOrStill c.weak_unit.result (IsBlackDone x flown) x flown (looked g at) f2)
    c.self.view_is
    (then_marks c.weak_unit.result (NoneLeft mark.Black (followed g first).heap.looks) (IsBlackDone view flown) view
    flown (followed g first) f1 (looked g at) f2 before.0
    (λ left. record { pile = before.1; looked = same.1 left }, λ done. same.0 done.looked) entry)

pub returns-then-black_unit-clause-steps : goal.returns-then-black_unit-clause-steps
returns-then-black_unit-clause-steps g c =
    let grays = ap (λ (x : CollectorState). grays_outside (heap_with x (g.F.Flight.bits c.args.flight.now)))
    c.self.view_is in
    omega (arith, c.black_unit.ensures.steps, grays)

pub returns-clause-steps : goal.returns-clause-steps
returns-clause-steps g c =
    let at = (goal.at.returns-clause-steps g c).After-weak_unit in
    let first = (goal.at.returns-clause-steps g c).After-black_unit in
    let flown = g.F.Flight.bits c.args.flight.now in
    let f1 = g.F.Flight.bits c.black_unit.new.flight in
    let view = ap (λ (x : CollectorState). grays_outside (heap_with x flown)) c.self.view_is in
    let read = (c.black_unit.ensures.same c.if-black_unit.false).3 in
    let before = ap grays_outside (none g first c.if-black_unit.false).0.colours in
    let kept = ap (λ (x : CollectorState). grays_outside (heap_with x f1)) (none g first c.if-black_unit.false).0.same
    in
    let few = c.weak_unit.ensures.steps in
    tries_few c.weak_unit.result c.args.steps.now (heap_with c.args.self.now flown) c.weak_unit.new.steps
    (heap_with (looked g at) (g.F.Flight.bits c.weak_unit.new.flight)) (omega (arith, view, read, before, kept, few))
