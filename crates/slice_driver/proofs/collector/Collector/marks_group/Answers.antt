use Rattle.std.proofs.Common.{◌≡◌, ◌∙◌, Bool, IsSome, false, true, refl, sym, ap, subst, arith}
use Rattle.weak_maps.specs.WeakMaps.{NoneLeft}
use Rattle.weak_maps.specs.declared.colours.MarkColour.TheVariants as mark
use Rattle.heap_core.specs.Heap.{without_delayed}
use Rattle.barriers.specs.Pending.{pending}
use Rattle.barriers.specs.Colours.{grays_outside}
use Rattle.marker.specs.Units.{IsGrayIdle}
use Rattle.slice_driver.specs.Collector.{CollectorState, heap_with}
use Rattle.slice_driver.specs.Units.{IsSoundMarking}
use Rattle.slice_driver.specs.Working.{IsGrayDone, TriesGroup}
use Rattle.slice_driver.specs.contracts.collector.Collector.{the_view}
use Rattle.slice_driver.proofs.marking.MarkingUnits.{gray_grays, gray_tried, look_shape}
use Rattle.slice_driver.proofs.marking.MarkingUnits.{look_tried, still_looked, still_marking, then_marks, tries_few}
use Rattle.slice_driver.proofs.marking.Views.{idle_seen, idle_unseen, same_pending, unmarked_seen}
use Rattle.slice_driver.proofs.collector.Collector.marks_group.Given.{Over}
use Rattle.slice_driver.proofs.collector.Collector.marks_group.Goals as goal
use Rattle.slice_driver.proofs.collector.Collector.marks_group.Goals.{After-gray_unit, After-weak_unit}

-- the collector after a piece of gray marking was tried, and after an entry was
abbrev followed : (g : Over) → After-gray_unit g → CollectorState
followed g c = record (the_view c.self.inside) {
  heap = without_delayed c.gray_unit.new.heap;
  stack = pending c.gray_unit.new.heap c.gray_unit.new.stack;
  lists = c.gray_unit.new.lists;
}

abbrev looked : (g : Over) → After-weak_unit g → CollectorState
looked g c = record (the_view c.self.inside) {
  heap = without_delayed c.weak_unit.new.heap;
  stack = pending c.weak_unit.new.heap c.weak_unit.new.stack;
  lists = c.gray_unit.new.lists;
}

sound : (g : Over) (c : After-gray_unit g) → IsSoundMarking (the_view c.self.inside) (g.F.Flight.bits c.args.flight.now)
sound g c = subst (λ (x : CollectorState). IsSoundMarking x (g.F.Flight.bits c.args.flight.now)) (sym c.self.view_is)
    c.requires.sound

running : (g : Over) (c : After-gray_unit g) → IsSome (the_view c.self.inside).run
running g c = subst (λ (x : CollectorState). IsSome x.run) (sym c.self.view_is) c.requires.running

ungrayed : (g : Over) (c : After-gray_unit g) → c.gray_unit.result ≡ false
    → ((followed g c).heap ≡ (the_view c.self.inside).heap) × ((followed g c).stack ≡ (the_view c.self.inside).stack)
    × (c.gray_unit.new.lists ≡ c.self.inside.lists)
ungrayed g c is = let same = c.gray_unit.ensures.same is in (
  ap without_delayed same.0,
  same_pending c.self.inside.heap c.gray_unit.new.heap c.self.inside.stack c.gray_unit.new.stack same.0 same.1,
  same.2,
)

piece : (g : Over) (c : After-gray_unit g) → TriesGroup c.gray_unit.result
    (IsGrayIdle (the_view c.self.inside).heap (the_view c.self.inside).stack c.self.inside.lists c.args.group.bits)
    (the_view c.self.inside) (g.F.Flight.bits c.args.flight.now) (followed g c) (g.F.Flight.bits c.args.flight.now)
piece g c = gray_tried (the_view c.self.inside) (g.F.Flight.bits c.args.flight.now) (g.F.Flight.bits c.args.flight.now)
    (followed g c).heap (followed g c).stack (sound g c) (running g c) refl c.gray_unit.new.lists c.args.group
    c.gray_unit.result c.gray_unit.ensures.does (
      λ is. idle_seen c.self.inside.heap (the_view c.self.inside).stack c.self.inside.lists c.args.group.bits
          (c.gray_unit.ensures.empty.0 is),
      λ idle. c.gray_unit.ensures.empty.1
          (idle_unseen c.self.inside.heap (the_view c.self.inside).stack c.self.inside.lists c.args.group.bits idle),
    ) (ungrayed g c)

-- no piece of it is left
none : (g : Over) (c : After-gray_unit g) → c.gray_unit.result ≡ false → TriesGroup false
    (IsGrayIdle (the_view c.self.inside).heap (the_view c.self.inside).stack c.self.inside.lists c.args.group.bits)
    (the_view c.self.inside) (g.F.Flight.bits c.args.flight.now) (followed g c) (g.F.Flight.bits c.args.flight.now)
none g c is = subst (λ (did : Bool). TriesGroup did
    (IsGrayIdle (the_view c.self.inside).heap (the_view c.self.inside).stack c.self.inside.lists c.args.group.bits)
    (the_view c.self.inside) (g.F.Flight.bits c.args.flight.now) (followed g c) (g.F.Flight.bits c.args.flight.now))
    is (piece g c)

still : (g : Over) (c : After-gray_unit g) → c.gray_unit.result ≡ false → IsSoundMarking (followed g c)
    (g.F.Flight.bits c.args.flight.now)
still g c is = still_marking (the_view c.self.inside) (g.F.Flight.bits c.args.flight.now) (followed g c)
    (g.F.Flight.bits c.args.flight.now) (none g c is).done.0 (sound g c)

pub weak_unit-requires-clause-invariant : goal.weak_unit-requires-clause-invariant
weak_unit-requires-clause-invariant g c =
    (still g (goal.at.weak_unit-requires-clause-invariant g c).After-gray_unit
    c.if-gray_unit.false).represents.coloured.marks

pub returns-then-gray_unit-clause-tries : goal.returns-then-gray_unit-clause-tries
returns-then-gray_unit-clause-tries g c =
    let at = (goal.at.returns-then-gray_unit-clause-tries g c).After-gray_unit in
    let view = the_view c.self.inside in
    let flown = g.F.Flight.bits c.args.flight.now in
    let did = subst (λ (b : Bool). TriesGroup b (IsGrayIdle view.heap view.stack view.lists c.args.group.bits) view
    flown (followed g at) flown) c.if-gray_unit.true (piece g at) in
    subst (λ (x : CollectorState). TriesGroup true (IsGrayDone x flown c.args.group) x flown (followed g at) flown)
    c.self.view_is
    (record { done = (did.done.0, λ done. did.done.1 done.idle); shape = did.shape; groups = did.groups })

pub returns-clause-tries : goal.returns-clause-tries
returns-clause-tries g c =
    let at = (goal.at.returns-clause-tries g c).After-weak_unit in
    let first = (goal.at.returns-clause-tries g c).After-gray_unit in
    let view = the_view c.self.inside in
    let flown = g.F.Flight.bits c.args.flight.now in
    let f2 = g.F.Flight.bits c.weak_unit.new.flight in
    let before = none g first c.if-gray_unit.false in
    let same = still_looked view flown (followed g first) flown before.done.0 mark.Gray in
    let entry = look_tried (followed g first) flown f2 (looked g at).heap (looked g at).stack
    (still g first c.if-gray_unit.false) (running g first) refl mark.Gray c.weak_unit.result
    c.weak_unit.ensures.covers c.weak_unit.ensures.does c.weak_unit.ensures.empty
    (λ is. let same = c.weak_unit.ensures.same is in
    unmarked_seen c.gray_unit.new.heap c.weak_unit.new.heap c.gray_unit.new.stack c.weak_unit.new.stack flown
    (g.F.Flight.bits c.weak_unit.new.flight) same.0 same.1 same.2) in
    let shape = look_shape (followed g first) flown f2 (looked g at).heap (looked g at).stack
    (still g first c.if-gray_unit.false) (running g first) refl mark.Gray c.weak_unit.result
    c.weak_unit.ensures.does
    (λ is. let same = c.weak_unit.ensures.same is in
    unmarked_seen c.gray_unit.new.heap c.weak_unit.new.heap c.gray_unit.new.stack c.weak_unit.new.stack flown
    (g.F.Flight.bits c.weak_unit.new.flight) same.0 same.1 same.2) in
    subst (λ (x : CollectorState). TriesGroup c.weak_unit.result (IsGrayDone x flown c.args.group) x flown
    (looked g at) f2) c.self.view_is
    (record {
      done = then_marks c.weak_unit.result (NoneLeft mark.Gray (followed g first).heap.looks)
          (IsGrayDone view flown c.args.group) view flown (followed g first) flown (looked g at) f2 before.done.0
          (λ left. record { idle = before.done.1; looked = same.1 left }, λ done. same.0 done.looked) entry;
      shape = shape ∙ before.shape;
      groups = before.groups;
    })

pub returns-then-gray_unit-clause-steps : goal.returns-then-gray_unit-clause-steps
returns-then-gray_unit-clause-steps g c =
    let at = (goal.at.returns-then-gray_unit-clause-steps g c).After-gray_unit in
    let flown = g.F.Flight.bits c.args.flight.now in
    let view = ap (λ (x : CollectorState). grays_outside (heap_with x flown)) c.self.view_is in
    let grays = gray_grays (the_view c.self.inside) flown flown (followed g at).heap (followed g at).stack
    (sound g at) (running g at) refl c.gray_unit.new.lists c.gray_unit.result c.gray_unit.ensures.does
    (ungrayed g at) in
    omega (arith, c.gray_unit.ensures.steps, view, grays)

pub returns-clause-steps : goal.returns-clause-steps
returns-clause-steps g c =
    let at = (goal.at.returns-clause-steps g c).After-weak_unit in
    let first = (goal.at.returns-clause-steps g c).After-gray_unit in
    let flown = g.F.Flight.bits c.args.flight.now in
    let view = ap (λ (x : CollectorState). grays_outside (heap_with x flown)) c.self.view_is in
    let read = (c.gray_unit.ensures.same c.if-gray_unit.false).3 in
    let kept = ap (λ (x : CollectorState). grays_outside (heap_with x flown))
    (none g first c.if-gray_unit.false).done.0.same in
    let few = c.weak_unit.ensures.steps in
    tries_few c.weak_unit.result c.args.steps.now (heap_with c.args.self.now flown) c.weak_unit.new.steps
    (heap_with (looked g at) (g.F.Flight.bits c.weak_unit.new.flight)) (omega (arith, view, read, kept, few))
