use Rattle.std.proofs.Common.{◌∙◌, Option, sym, ap, subst}
use Rattle.std.specs.Option.{ForSome}
use Rattle.gz_names.specs.declared.numbers.Place.{Place}
use Rattle.mark_stack.specs.Stack.{Piles}
use Rattle.heap_core.specs.Answers.{IsSound as IsSoundHeap}
use Rattle.heap_core.specs.Heap.{HeapState, without_delayed}
use Rattle.heap_core.specs.Shape.{IsPresent, Shape}
use Rattle.barriers.specs.Pending.{pending}
use Rattle.slice_driver.specs.Collector.{CollectorState, IsKept}
use Rattle.slice_driver.specs.contracts.collector.Collector.{the_view}
use Rattle.slice_driver.proofs.commanding.Commanded.{sound_heap, through_sound}
use Rattle.slice_driver.proofs.commanding.Commanding.{sound_phase}
use Rattle.slice_driver.proofs.commanding.DerefSteps.{HandsOver, PlansDeref, deref_able, derefs_by, handed_is}
use Rattle.slice_driver.proofs.commanding.DerefSteps.{kept_registers, none_wanted, registers_after, slot_there}
use Rattle.slice_driver.proofs.commanding.Viewed.{committed_delayed, sound_plain}
use Rattle.slice_driver.proofs.collector.Collector.deref.Goals as goal

-- the heap of a collector
abbrev heap_of : CollectorState → HeapState
heap_of c = c.heap

pub expose-requires-clause-present : goal.expose-requires-clause-present
expose-requires-clause-present g c =
    let planned : PlansDeref c.args.self.now = record {
      heap = c.self.inside.heap;
      here = ap heap_of c.self.view_is;
      r = c.args.r;
      q = c.args.q;
      plan = c.plan_deref-plan.result;
      is = c.plan_deref-plan.ensures;
    } in
    subst (λ (o : Option Place). ForSome o (IsPresent c.args.self.now.heap.shape))
    (sym (c.handed-held.ensures ∙ handed_is c.args.self.now planned))
    (slot_there c.args.self.now (g.F.Flight.bits c.args.flight.now) c.requires.sound c.args.q)

pub expose-requires-clause-phase : goal.expose-requires-clause-phase
expose-requires-clause-phase g c =
    sound_phase c.args.self.now (g.F.Flight.bits c.args.flight.now) c.requires.sound

pub commit-requires-clause-sound : goal.commit-requires-clause-sound
commit-requires-clause-sound g c =
    let flown = g.F.Flight.bits c.args.flight.now in
    sound_plain c.self-2.inside.heap (subst IsSoundHeap (sym (ap heap_of c.self-2.view_is))
    (through_sound c.handed-held.result c.args.self.now c.expose.new.self flown (g.F.Flight.bits c.expose.new.flight)
    c.expose.ensures.through (sound_heap c.args.self.now flown c.requires.sound)))

pub commit-requires-clause-able : goal.commit-requires-clause-able
commit-requires-clause-able g c =
    let flown = g.F.Flight.bits c.args.flight.now in
    let planned : PlansDeref c.args.self.now = record {
      heap = c.self.inside.heap;
      here = ap heap_of c.self.view_is;
      r = c.args.r;
      q = c.args.q;
      plan = c.plan_deref-plan.result;
      is = c.plan_deref-plan.ensures;
    } in
    let over : HandsOver c.args.self.now flown planned.plan = record {
      handed = c.handed-held.result;
      is = c.handed-held.ensures;
      between = c.expose.new.self;
      flying = g.F.Flight.bits c.expose.new.flight;
      through = c.expose.ensures.through;
      heap = c.self-2.inside.heap;
      now = ap heap_of c.self-2.view_is;
    } in
    deref_able c.args.self.now flown planned over c.requires.sound

pub unreachable-requires : goal.unreachable-requires
unreachable-requires g c =
    let planned : PlansDeref c.args.self.now = record {
      heap = c.self.inside.heap;
      here = ap heap_of c.self.view_is;
      r = c.args.r;
      q = c.args.q;
      plan = c.plan_deref-plan.result;
      is = c.plan_deref-plan.ensures;
    } in
    none_wanted c.args.self.now planned c.self-2.inside.heap.shape c.in-Err.ensures.wanted

pub returns-clause-derefs : goal.returns-clause-derefs
returns-clause-derefs g c =
    let flown = g.F.Flight.bits c.args.flight.now in
    let inside = c.self-2.inside in
    let new = c.commit.new.self in
    let seen : Piles → CollectorState = λ delayed. record (the_view inside) {
      heap = without_delayed new;
      stack = pending (record new { delayed = delayed }) inside.stack;
    } in
    let planned : PlansDeref c.args.self.now = record {
      heap = c.self.inside.heap;
      here = ap heap_of c.self.view_is;
      r = c.args.r;
      q = c.args.q;
      plan = c.plan_deref-plan.result;
      is = c.plan_deref-plan.ensures;
    } in
    let over : HandsOver c.args.self.now flown planned.plan = record {
      handed = c.handed-held.result;
      is = c.handed-held.ensures;
      between = c.expose.new.self;
      flying = g.F.Flight.bits c.expose.new.flight;
      through = c.expose.ensures.through;
      heap = c.self-2.inside.heap;
      now = ap heap_of c.self-2.view_is;
    } in
    derefs_by c.args.self.now flown planned over c.in-Ok.reply new _
    (ap seen (committed_delayed inside.heap new planned.plan.change c.commit.result c.commit.ensures.change
    c.commit.ensures.err) ∙ ap (λ (z : CollectorState). record z { heap = without_delayed new }) c.self-2.view_is)
    c.in-Ok.ensures.change

pub invariant_of-self : goal.invariant_of-self
invariant_of-self g c =
    let inside = c.self-2.inside in
    let planned : PlansDeref c.args.self.now = record {
      heap = c.self.inside.heap;
      here = ap heap_of c.self.view_is;
      r = c.args.r;
      q = c.args.q;
      plan = c.plan_deref-plan.result;
      is = c.plan_deref-plan.ensures;
    } in
    let after = registers_after c.args.self.now planned inside.heap c.commit.new.self c.commit.result
    c.commit.ensures.change c.commit.ensures.err in
    subst (λ (s : Shape). IsKept s inside.edges inside.order inside.phase) (sym after.1)
    (kept_registers inside.heap.shape after.0 inside.edges inside.order inside.phase c.self-2.invariant)
