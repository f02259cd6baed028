use Rattle.std.proofs.Common.{◌≡◌, ◌<◌, IsSome, arith, ap, subst, sym}
use Rattle.sweeping.specs.ArenasOut.{flying_after, outs_after}
use Rattle.slice_driver.specs.Collector.{CollectorState, heap_with}
use Rattle.slice_driver.specs.declared.advance.Step.{Step}
use Rattle.slice_driver.proofs.abstraction.Phases.{due_started}
use Rattle.slice_driver.proofs.marking.MarkingUnits.{still_sound}
use Rattle.slice_driver.proofs.marking.Units.{quiet_sound}
use Rattle.slice_driver.proofs.marking.EdgesRead.{ok_reads, quiet_reads, still_grays}
use Rattle.slice_driver.proofs.marking.UnitSteps.{due_hands, due_into, err_ends, ok_hands, ok_still, quiet_advances}
use Rattle.slice_driver.proofs.marking.UnitSteps.{still_advances, still_out}
use Rattle.slice_driver.proofs.collector.Collector.advance.Goals as goal

pub returns-then-quiet-gt0-clause-done : goal.returns-then-quiet-gt0-clause-done
returns-then-quiet-gt0-clause-done g c =
    let more = c.if-quiet-gt0.true in
    let some : 0 < c.quiet_units-quiet.result = omega (arith, more) in
    quiet_advances c.args.limit c.quiet_units-quiet.result c.args.self.now c.quiet_units-quiet.new.self
    (g.F.Flight.bits c.args.flight.now) (g.F.Flight.bits c.quiet_units-quiet.new.flight)
    (g.F.Sweeping.left (g.F.Flight.origin c.args.flight.now))
    (g.F.Sweeping.left (g.F.Flight.origin c.quiet_units-quiet.new.flight)) c.args.report.now
    c.quiet_units-quiet.ensures.does.done some c.quiet_units-quiet.ensures.does.most
    c.quiet_units-quiet.ensures.does.resting c.requires.ready.sound
    (quiet_sound c.quiet_units-quiet.result c.args.self.now (g.F.Flight.bits c.args.flight.now)
    c.quiet_units-quiet.new.self (g.F.Flight.bits c.quiet_units-quiet.new.flight) c.quiet_units-quiet.ensures.does.done
    c.requires.ready.sound)
    (ap g.F.Sweeping.left c.quiet_units-quiet.ensures.origin) c.requires.ready.out

pub returns-in-Some-clause-done : goal.returns-in-Some-clause-done
returns-in-Some-clause-done g c =
    let none = c.if-quiet-gt0.false in
    let some = c.requires.some in
    let zero : c.quiet_units-quiet.result ≡ 0 = omega (arith, none) in
    let rests = c.quiet_units-quiet.ensures.does.rests (omega (arith, none, some)) in
    let took = c.take_due.ensures in
    still_advances c.args.limit c.args.self.now c.quiet_units-quiet.new.self c.take_due.new.self
    (g.F.Flight.bits c.args.flight.now) (g.F.Flight.bits c.quiet_units-quiet.new.flight)
    (flying_after c.swept.result.handed (g.F.Flight.bits c.take_due.new.flight))
    (outs_after c.swept.result.handed (g.F.Sweeping.left (g.F.Flight.origin c.take_due.new.flight)))
    c.args.report.now c.take_due.new.report c.swept.result c.requires.some
    (c.quiet_units-quiet.ensures.does.done.none zero)
    (due_into c.quiet_units-quiet.new.self c.take_due.new.self (g.F.Flight.bits c.quiet_units-quiet.new.flight)
    (g.F.Flight.bits c.take_due.new.flight) (g.F.Sweeping.left (g.F.Flight.origin c.take_due.new.flight))
    c.args.report.now c.take_due.new.report c.take_due.result c.swept.result c.swept.ensures
    c.in-Some.arena c.in-Some.ensures.some rests took.told took.takes.done took.takes.left took.takes.to_come
    took.takes.finished took.takes.sound took.takes.out took.takes.made took.takes.ledger took.takes.weak
    (due_started _ _ (still_sound _ _ _ _ (c.quiet_units-quiet.ensures.does.done.none zero) c.requires.ready.sound)
    c.in-Some.arena c.in-Some.ensures.some.out
    (subst (λ (x : CollectorState). IsSome x.run) (sym (c.quiet_units-quiet.ensures.does.done.none zero).same)
    c.requires.ready.running)))

pub take_due-requires-clause-ready : goal.take_due-requires-clause-ready
take_due-requires-clause-ready g c =
    let none = c.if-quiet-gt0.false in
    let zero : c.quiet_units-quiet.result ≡ 0 = omega (arith, none) in
    let still = c.quiet_units-quiet.ensures.does.done.none zero in
    record {
      sound = still_sound c.args.self.now (g.F.Flight.bits c.args.flight.now) c.quiet_units-quiet.new.self
          (g.F.Flight.bits c.quiet_units-quiet.new.flight) still c.requires.ready.sound;
      running = subst (λ (x : CollectorState). IsSome x.run) (sym still.same) c.requires.ready.running;
      out = still_out c.args.self.now c.quiet_units-quiet.new.self (g.F.Flight.bits c.args.flight.now)
          (g.F.Flight.bits c.quiet_units-quiet.new.flight)
          (g.F.Sweeping.left (g.F.Flight.origin c.args.flight.now))
          (g.F.Sweeping.left (g.F.Flight.origin c.quiet_units-quiet.new.flight)) still
          (ap g.F.Sweeping.left c.quiet_units-quiet.ensures.origin) c.requires.ready.out;
    }

pub advance_one-requires-clause-running : goal.advance_one-requires-clause-running
advance_one-requires-clause-running g c =
    let none = c.if-quiet-gt0.false in
    let zero : c.quiet_units-quiet.result ≡ 0 = omega (arith, none) in
    subst (λ (x : CollectorState). IsSome x.run) (sym (c.quiet_units-quiet.ensures.does.done.none zero).same)
    c.requires.ready.running

pub advance_one-requires-clause-rests : goal.advance_one-requires-clause-rests
advance_one-requires-clause-rests g c =
    let none = c.if-quiet-gt0.false in
    let some = c.requires.some in (
      g.F.Flight.bits c.quiet_units-quiet.new.flight,
      (quiet_sound c.quiet_units-quiet.result c.args.self.now (g.F.Flight.bits c.args.flight.now)
          c.quiet_units-quiet.new.self (g.F.Flight.bits c.quiet_units-quiet.new.flight)
          c.quiet_units-quiet.ensures.does.done
          c.requires.ready.sound),
      c.quiet_units-quiet.ensures.does.rests (omega (arith, none, some)),
    )

pub returns-clause-done : goal.returns-clause-done
returns-clause-done g c =
    let none = c.if-quiet-gt0.false in
    let some = c.requires.some in
    let zero : c.quiet_units-quiet.result ≡ 0 = omega (arith, none) in
    let still = c.quiet_units-quiet.ensures.does.done.none zero in
    ok_still c.advance_one.result c.args.limit c.args.self.now c.quiet_units-quiet.new.self c.advance_one.new.self
    (g.F.Flight.bits c.args.flight.now) (g.F.Flight.bits c.quiet_units-quiet.new.flight)
    (g.F.Sweeping.left (g.F.Flight.origin c.quiet_units-quiet.new.flight))
    c.args.report.now c.advance_one.new.report some still
    (quiet_sound c.quiet_units-quiet.result c.args.self.now (g.F.Flight.bits c.args.flight.now)
    c.quiet_units-quiet.new.self (g.F.Flight.bits c.quiet_units-quiet.new.flight) c.quiet_units-quiet.ensures.does.done
    c.requires.ready.sound)
    (c.quiet_units-quiet.ensures.does.rests (omega (arith, none, some)))
    (still_out c.args.self.now c.quiet_units-quiet.new.self (g.F.Flight.bits c.args.flight.now)
    (g.F.Flight.bits c.quiet_units-quiet.new.flight) (g.F.Sweeping.left (g.F.Flight.origin c.args.flight.now))
    (g.F.Sweeping.left (g.F.Flight.origin c.quiet_units-quiet.new.flight)) still
    (ap g.F.Sweeping.left c.quiet_units-quiet.ensures.origin) c.requires.ready.out)
    c.advance_one.ensures.done

pub returns-then-quiet-gt0-clause-steps : goal.returns-then-quiet-gt0-clause-steps
returns-then-quiet-gt0-clause-steps g c = λ other. quiet_reads c.quiet_units-quiet.result c.args.steps.now
    c.quiet_units-quiet.new.steps (heap_with c.args.self.now (g.F.Flight.bits c.args.flight.now))
    (heap_with c.quiet_units-quiet.new.self (g.F.Flight.bits c.quiet_units-quiet.new.flight))
    c.quiet_units-quiet.ensures.steps

pub returns-in-Some-clause-steps : goal.returns-in-Some-clause-steps
returns-in-Some-clause-steps g c =
    let none = c.if-quiet-gt0.false in
    let zero : c.quiet_units-quiet.result ≡ 0 = omega (arith, none) in
    let few = c.quiet_units-quiet.ensures.steps in
    let still = still_grays c.args.self.now (g.F.Flight.bits c.args.flight.now) c.quiet_units-quiet.new.self
    (g.F.Flight.bits c.quiet_units-quiet.new.flight) (c.quiet_units-quiet.ensures.does.done.none zero) in
    let one = ap (λ (s : Step). s.units) c.swept.ensures in
    λ other. omega (arith, few, zero, still, one)

pub returns-clause-steps : goal.returns-clause-steps
returns-clause-steps g c =
    let none = c.if-quiet-gt0.false in
    let zero : c.quiet_units-quiet.result ≡ 0 = omega (arith, none) in
    let few = c.quiet_units-quiet.ensures.steps in
    let still = still_grays c.args.self.now (g.F.Flight.bits c.args.flight.now) c.quiet_units-quiet.new.self
    (g.F.Flight.bits c.quiet_units-quiet.new.flight) (c.quiet_units-quiet.ensures.does.done.none zero) in
    ok_reads c.advance_one.result c.args.steps.now c.quiet_units-quiet.new.steps c.advance_one.new.steps
    (heap_with c.args.self.now (g.F.Flight.bits c.args.flight.now)) c.advance_one.new.self
    (g.F.Flight.bits c.quiet_units-quiet.new.flight) c.advance_one.new.report (omega (arith, few, zero, still))
    c.advance_one.ensures.steps

pub returns-in-Some-clause-handed : goal.returns-in-Some-clause-handed
returns-in-Some-clause-handed g c = due_hands c.args.self.now c.take_due.new.report c.take_due.result
    c.swept.result c.swept.ensures c.in-Some.arena c.take_due.ensures.told

pub returns-clause-handed : goal.returns-clause-handed
returns-clause-handed g c =
    let none = c.if-quiet-gt0.false in
    let zero : c.quiet_units-quiet.result ≡ 0 = omega (arith, none) in
    ok_hands c.advance_one.result c.args.self.now c.quiet_units-quiet.new.self (g.F.Flight.bits c.args.flight.now)
    (g.F.Flight.bits c.quiet_units-quiet.new.flight) c.advance_one.new.report
    (c.quiet_units-quiet.ensures.does.done.none zero) c.advance_one.ensures.handed

pub returns-clause-err_where : goal.returns-clause-err_where
returns-clause-err_where g c =
    let none = c.if-quiet-gt0.false in
    let some = c.requires.some in
    let zero : c.quiet_units-quiet.result ≡ 0 = omega (arith, none) in
    err_ends c.advance_one.result c.args.self.now c.quiet_units-quiet.new.self (g.F.Flight.bits c.args.flight.now)
    (g.F.Flight.bits c.quiet_units-quiet.new.flight) (c.quiet_units-quiet.ensures.does.done.none zero)
    (c.quiet_units-quiet.ensures.does.rests (omega (arith, none, some))) c.in_default.ensures.none
    c.advance_one.ensures.err_where
