use Rattle.std.proofs.Common.{◌≡◌, ◌∙◌, IfOk, OnErr, IsSome, ap, sym, subst, rules, Option, ℕ}
use Rattle.mark_stack.specs.Stack.{Piles}
use Rattle.heap_core.specs.Answers.{IsSound as IsSoundHeap}
use Rattle.heap_core.specs.Heap.{HeapState, without_delayed}
use Rattle.heap_core.specs.Lookups.{IsRefused}
use Rattle.heap_core.specs.Plans.{ChangesBy, IsAble, IsPlanOf, MayWant}
use Rattle.heap_core.proofs.Planned.{making-wants, planned-here}
use Rattle.barriers.specs.Pending.{pending}
use Rattle.slice_driver.specs.Calls.{CommandDone}
use Rattle.slice_driver.specs.Collector.{CollectorState, IsKept}
use Rattle.slice_driver.specs.Rooms.{IsRoomy, arenas_after}
use Rattle.slice_driver.specs.Steps.{GoesThrough}
use Rattle.slice_driver.specs.contracts.collector.Collector.{the_view}
use Rattle.slice_driver.proofs.commanding.Commanded.{IsPlanned, as_fault, kept_call, planned_done}
use Rattle.slice_driver.proofs.commanding.Commanded.{refused_done, roomless_done, sound_heap, sound_roomy}
use Rattle.slice_driver.proofs.commanding.Commanded.{through_able, through_plan, through_sound, where_err, wide_able}
use Rattle.slice_driver.proofs.commanding.Commanded.{wide_plan, wide_sound}
use Rattle.slice_driver.proofs.commanding.Commanding.{sound_phase, through_phase, wide_phase}
use Rattle.slice_driver.proofs.commanding.Viewed.{committed_delayed, committed_viewed, refused_viewed, sound_plain}
use Rattle.slice_driver.proofs.commanding.Viewed.{uncommitted_viewed}
use Rattle.slice_driver.proofs.collector.Collector.command.Given.{Over}
use Rattle.slice_driver.proofs.collector.Collector.command.Goals as goal
use Rattle.slice_driver.proofs.collector.Collector.command.Goals.{Joined-commit, in-Ok-commit, in-Err-commit}

-- the heap of a collector
abbrev heap_of : CollectorState → HeapState
heap_of c = c.heap

-- the collector as the change was made, with these cells still delayed
abbrev with_pending : (g : Over) → Joined-commit g → Piles → CollectorState
with_pending g c delayed = record (the_view c.self-2.inside) {
  heap = without_delayed c.commit.new.self;
  stack = pending (record c.commit.new.self { delayed = delayed }) c.self-2.inside.stack;
}

-- the collector after the call
abbrev after : (g : Over) → Joined-commit g → CollectorState
after g c = record (the_view c.self-2.inside) {
  heap = without_delayed c.commit.new.self;
  stack = pending c.commit.new.self c.self-2.inside.stack;
}

planned : (g : Over) (c : Joined-commit g)
    → IsPlanned _ c.args.self.now c.make_room.new.self c.expose.new.self c.expose-2.new.self c.expose-3.new.self
    (after g c)
    (g.F.Flight.bits c.args.flight.now) (g.F.Flight.bits c.expose.new.flight) (g.F.Flight.bits c.expose-2.new.flight)
    (g.F.Flight.bits c.expose-3.new.flight) c.args.cmd c.in-Ok.plan c.commit.result
planned g c =
    let here = ap heap_of c.self-2.view_is in
    let old = c.self-2.inside.heap in
    let new = c.commit.new.self in
    let ch = c.in-Ok.plan.change in
    let plan = subst (λ h. IsPlanOf h c.args.cmd c.in-Ok.plan) (ap heap_of c.self.view_is) c.in-Ok.ensures.plan in
    record {
      sound = c.requires.sound;
      apart = c.wrappers_law.ensures;
      few = c.requires.fields;
      planned = plan;
      able = (planned-here c.args.self.now.heap c.args.cmd c.in-Ok.plan plan).able c.requires.few c.requires.fields;
      wide = c.make_room.ensures.widens;
      roomy = (let room : IsRoomy c.make_room.new.self (arenas_after c.args.self.now.heap c.makes_in.result) =
          search rules in
          subst (λ (o : Option ℕ). IsRoomy c.make_room.new.self (arenas_after c.args.self.now.heap o))
          c.makes_in.ensures room);
      first = c.expose.ensures.through;
      second = c.expose-2.ensures.through;
      third = subst (λ o. GoesThrough o c.expose-2.new.self (g.F.Flight.bits c.expose-2.new.flight) c.expose-3.new.self
          (g.F.Flight.bits c.expose-3.new.flight)) c.handed.ensures c.expose-3.ensures.through;
      rest = ap (with_pending g c)
          (committed_delayed old new ch c.commit.result c.commit.ensures.change c.commit.ensures.err)
          ∙ ap (λ (z : CollectorState). record z { heap = without_delayed new }) c.self-2.view_is;
      change = subst (λ (h : HeapState). IfOk c.commit.result (λ answer. ChangesBy h ch answer (without_delayed new)))
          here (committed_viewed old new ch c.commit.result c.commit.ensures.change);
      err = subst (λ h. OnErr c.commit.result (without_delayed new ≡ h)) here
          (uncommitted_viewed old new c.commit.result c.commit.ensures.err);
      wanted = subst (λ (h : HeapState). OnErr c.commit.result (MayWant h.shape ch)) here c.commit.ensures.wanted;
    }

-- the result, by what the heap answers
result_is : (g : Over) (c : Joined-commit g) → c.match-commit.result ≡ as_fault c.commit.result
result_is g c = elim c.match-commit.branch [
  | in-Ok-commit w ↦ w.result-is ∙ sym (ap as_fault w.in-Ok-commit.is)
  | in-Err-commit w ↦ w.result-is ∙ sym (ap as_fault w.in-Err-commit.is)
]

pub resolve-requires : goal.resolve-requires
resolve-requires g c = record {
  sound = sound_plain c.self.inside.heap (subst IsSoundHeap (sym (ap heap_of c.self.view_is))
      (sound_heap c.args.self.now (g.F.Flight.bits c.args.flight.now) c.requires.sound));
}

pub make_room-requires : goal.make_room-requires
make_room-requires g c =
    record { roomy = sound_roomy c.args.self.now (g.F.Flight.bits c.args.flight.now) c.requires.sound }

pub expose-requires-clause-present : goal.expose-requires-clause-present
expose-requires-clause-present g c =
    let plan = subst (λ h. IsPlanOf h c.args.cmd c.in-Ok.plan) (ap heap_of c.self.view_is) c.in-Ok.ensures.plan in
    (planned-here c.make_room.new.self.heap c.args.cmd c.in-Ok.plan
    (wide_plan c.args.self.now c.make_room.new.self c.args.cmd c.in-Ok.plan c.make_room.ensures.widens
    plan)).overwritten_there

pub expose-requires-2-clause-present : goal.expose-requires-2-clause-present
expose-requires-2-clause-present g c =
    let plan = subst (λ h. IsPlanOf h c.args.cmd c.in-Ok.plan) (ap heap_of c.self.view_is) c.in-Ok.ensures.plan in
    let wide = wide_plan c.args.self.now c.make_room.new.self c.args.cmd c.in-Ok.plan c.make_room.ensures.widens plan in
    (planned-here c.expose.new.self.heap c.args.cmd c.in-Ok.plan
    (through_plan c.in-Ok.plan.overwritten c.make_room.new.self c.expose.new.self (g.F.Flight.bits c.args.flight.now)
    (g.F.Flight.bits c.expose.new.flight)
    c.args.cmd c.in-Ok.plan c.expose.ensures.through wide)).wrapped_there

pub expose-requires-3-clause-present : goal.expose-requires-3-clause-present
expose-requires-3-clause-present g c =
    let plan = subst (λ h. IsPlanOf h c.args.cmd c.in-Ok.plan) (ap heap_of c.self.view_is) c.in-Ok.ensures.plan in
    let wide = wide_plan c.args.self.now c.make_room.new.self c.args.cmd c.in-Ok.plan c.make_room.ensures.widens plan in
    let first = through_plan c.in-Ok.plan.overwritten c.make_room.new.self c.expose.new.self
    (g.F.Flight.bits c.args.flight.now) (g.F.Flight.bits c.expose.new.flight)
    c.args.cmd c.in-Ok.plan c.expose.ensures.through wide in
    let second = through_plan c.in-Ok.plan.wrapped c.expose.new.self c.expose-2.new.self
    (g.F.Flight.bits c.expose.new.flight) (g.F.Flight.bits c.expose-2.new.flight)
    c.args.cmd c.in-Ok.plan c.expose-2.ensures.through first in
    λ p is. (planned-here c.expose-2.new.self.heap c.args.cmd c.in-Ok.plan second).handed_there p
    (sym c.handed.ensures ∙ is)

-- a barrier finds what it asks
pub expose-requires-clause-phase : goal.expose-requires-clause-phase
expose-requires-clause-phase g c = wide_phase c.args.self.now c.make_room.new.self (g.F.Flight.bits c.args.flight.now)
    c.make_room.ensures.widens (sound_phase c.args.self.now (g.F.Flight.bits c.args.flight.now) c.requires.sound)

pub expose-requires-2-clause-phase : goal.expose-requires-2-clause-phase
expose-requires-2-clause-phase g c = through_phase c.in-Ok.plan.overwritten c.make_room.new.self
    (g.F.Flight.bits c.args.flight.now) c.expose.new.self (g.F.Flight.bits c.expose.new.flight) c.expose.ensures.through
    (wide_phase c.args.self.now c.make_room.new.self (g.F.Flight.bits c.args.flight.now) c.make_room.ensures.widens
    (sound_phase c.args.self.now (g.F.Flight.bits c.args.flight.now) c.requires.sound))

pub expose-requires-3-clause-phase : goal.expose-requires-3-clause-phase
expose-requires-3-clause-phase g c = through_phase c.in-Ok.plan.wrapped c.expose.new.self
    (g.F.Flight.bits c.expose.new.flight) c.expose-2.new.self (g.F.Flight.bits c.expose-2.new.flight)
    c.expose-2.ensures.through
    (through_phase c.in-Ok.plan.overwritten c.make_room.new.self (g.F.Flight.bits c.args.flight.now) c.expose.new.self
    (g.F.Flight.bits c.expose.new.flight) c.expose.ensures.through
    (wide_phase c.args.self.now c.make_room.new.self (g.F.Flight.bits c.args.flight.now) c.make_room.ensures.widens
    (sound_phase c.args.self.now (g.F.Flight.bits c.args.flight.now) c.requires.sound)))

pub commit-requires-clause-sound : goal.commit-requires-clause-sound
commit-requires-clause-sound g c =
    let wide = wide_sound c.args.self.now c.make_room.new.self (g.F.Flight.bits c.args.flight.now)
    c.make_room.ensures.widens c.requires.sound in
    let first = through_sound c.in-Ok.plan.overwritten c.make_room.new.self c.expose.new.self
    (g.F.Flight.bits c.args.flight.now) (g.F.Flight.bits c.expose.new.flight) c.expose.ensures.through wide in
    let second = through_sound c.in-Ok.plan.wrapped c.expose.new.self c.expose-2.new.self
    (g.F.Flight.bits c.expose.new.flight) (g.F.Flight.bits c.expose-2.new.flight) c.expose-2.ensures.through
    first
    in
    let third = through_sound c.handed.result c.expose-2.new.self c.expose-3.new.self
    (g.F.Flight.bits c.expose-2.new.flight) (g.F.Flight.bits c.expose-3.new.flight) c.expose-3.ensures.through
    second in
    sound_plain c.self-2.inside.heap (subst IsSoundHeap (sym (ap heap_of c.self-2.view_is)) third)

pub commit-requires-clause-able : goal.commit-requires-clause-able
commit-requires-clause-able g c =
    let ch = c.in-Ok.plan.change in
    let plan = subst (λ h. IsPlanOf h c.args.cmd c.in-Ok.plan) (ap heap_of c.self.view_is) c.in-Ok.ensures.plan in
    let able = (planned-here c.args.self.now.heap c.args.cmd c.in-Ok.plan plan).able c.requires.few c.requires.fields in
    let wide = wide_able c.args.self.now c.make_room.new.self ch c.make_room.ensures.widens able in
    let first = through_able c.in-Ok.plan.overwritten c.make_room.new.self c.expose.new.self
    (g.F.Flight.bits c.args.flight.now) (g.F.Flight.bits c.expose.new.flight) ch c.expose.ensures.through wide
    in
    let second = through_able c.in-Ok.plan.wrapped c.expose.new.self c.expose-2.new.self
    (g.F.Flight.bits c.expose.new.flight) (g.F.Flight.bits c.expose-2.new.flight) ch c.expose-2.ensures.through
    first in
    let third = through_able c.handed.result c.expose-2.new.self c.expose-3.new.self
    (g.F.Flight.bits c.expose-2.new.flight) (g.F.Flight.bits c.expose-3.new.flight) ch
    c.expose-3.ensures.through
    second in
    subst (λ (h : HeapState). IsAble h.shape h.made ch) (sym (ap heap_of c.self-2.view_is)) third

pub invariant_of-self : goal.invariant_of-self
invariant_of-self g c =
    let here = ap (λ (z : CollectorState). z.heap.shape) c.self-2.view_is in
    kept_call _ _ _ _ _ _ _ _ _ _ _ _ _ _
    (planned g c) c.self-2.inside.edges c.self-2.inside.order c.self-2.inside.phase
    (subst (λ s. IsKept s c.self-2.inside.edges c.self-2.inside.order c.self-2.inside.phase) here c.self-2.invariant)

pub returns-in-Err : goal.returns-in-Err
returns-in-Err g c = refused_done g.F.Flight.bits g.F.Flight.origin c.args.self.now c.args.flight.now c.args.cmd
    c.in-Err.why
    (subst (λ h. IsRefused h c.args.cmd c.in-Err.why) (ap heap_of c.self.view_is)
    (refused_viewed c.self.inside.heap c.args.cmd c.in-Err.why c.in-Err.ensures.refused)) c.requires.sound

pub returns-then-is_err : goal.returns-then-is_err
returns-then-is_err g c =
    let makes = where_err c.make_room.result (sym c.is_err.ensures.value ∙ c.if-is_err.true) c.make_room.ensures.makes
    in
    let may = making-wants c.self.inside.heap.shape c.in-Ok.plan.change
    (subst (λ (o : Option ℕ). IsSome o) c.makes_in.ensures makes) in
    roomless_done g.F.Flight.bits g.F.Flight.origin c.args.self.now c.make_room.new.self c.args.flight.now c.args.cmd
    c.make_room.ensures.widens c.requires.sound
    (planned-here c.args.self.now.heap c.args.cmd c.in-Ok.plan
    (subst (λ h. IsPlanOf h c.args.cmd c.in-Ok.plan) (ap heap_of c.self.view_is) c.in-Ok.ensures.plan)).accepted
    ((planned-here c.self.inside.heap c.args.cmd c.in-Ok.plan c.in-Ok.ensures.plan).wants may)

pub returns : goal.returns
returns g c = subst (λ r. CommandDone g.F.Flight.bits g.F.Flight.origin c.args.self.now c.args.flight.now c.args.cmd r
    (after g c) c.expose-3.new.flight) (sym (result_is g c))
    (planned_done g.F.Flight.bits g.F.Flight.origin c.args.flight.now c.expose.new.flight c.expose-2.new.flight
    c.expose-3.new.flight _ _ _ _ _ _ _ _ _ (planned g c) c.entries_law.ensures.sound c.entries_law.ensures.parallel
    (c.expose-3.ensures.origin ∙ (c.expose-2.ensures.origin ∙ c.expose.ensures.origin)))
