use Rattle.std.proofs.Common.{refl}
use Rattle.trace_cli.proofs.Resetting.{given_breaks, given_up, none_reset, out_freed, weak_kept}
use Rattle.trace_cli.proofs.Units.{makes_same, not_running}
use Rattle.trace_cli.proofs.resets.stop.Goals as goal

pub returns-then-not-running-clause-ok : goal.returns-then-not-running-clause-ok
returns-then-not-running-clause-ok g c = none_reset c.args.collector.now (g.F.Flight.bits c.args.flight.now)
    (g.K.Sink.written c.args.sink.now)

pub returns-then-not-running-clause-over : goal.returns-then-not-running-clause-over
returns-then-not-running-clause-over g c =
    not_running c.running.result c.args.collector.now.run c.running.ensures.run c.if-not-running.true

pub returns-then-not-running-clause-size : goal.returns-then-not-running-clause-size
returns-then-not-running-clause-size g c = makes_same c.args.collector.now c.args.collector.now refl

pub give_up-zones-requires-clause-running : goal.give_up-zones-requires-clause-running
give_up-zones-requires-clause-running g c = c.running.ensures.run.0 c.if-not-running.false

pub returns-in-Ok-clause-ok : goal.returns-in-Ok-clause-ok
returns-in-Ok-clause-ok g c =
    given_up c.args.collector.now c.give_up-zones.new.self (g.F.Flight.bits c.args.flight.now)
    (g.F.Flight.bits c.give_up-zones.new.flight) c.give_up-zones.result (g.K.Sink.written c.args.sink.now)
    (g.K.Sink.written c.write_reports.new.sink) (c.running.ensures.run.0 c.if-not-running.false)
    c.give_up-zones.ensures.done c.in-Ok.ensures.ok

pub returns-in-Ok-clause-flight : goal.returns-in-Ok-clause-flight
returns-in-Ok-clause-flight g c =
    let gives = c.give_up-zones.ensures.done in
    record { sound = gives.sound; out = out_freed c.give_up-zones.new.self.heap.shape _ gives.none_out }

pub returns-in-Ok-clause-size : goal.returns-in-Ok-clause-size
returns-in-Ok-clause-size g c =
    let gives = c.give_up-zones.ensures.done in
    weak_kept c.args.collector.now c.give_up-zones.new.self gives.made gives.ledger gives.weak

pub returns-clause-flight : goal.returns-clause-flight
returns-clause-flight g c =
    let gives = c.give_up-zones.ensures.done in
    record { sound = gives.sound; out = out_freed c.give_up-zones.new.self.heap.shape _ gives.none_out }

pub returns-clause-size : goal.returns-clause-size
returns-clause-size g c =
    let gives = c.give_up-zones.ensures.done in
    weak_kept c.args.collector.now c.give_up-zones.new.self gives.made gives.ledger gives.weak

pub returns-clause-write : goal.returns-clause-write
returns-clause-write g c =
    given_breaks c.args.collector.now c.give_up-zones.new.self (g.F.Flight.bits c.args.flight.now)
    (g.F.Flight.bits c.give_up-zones.new.flight) c.give_up-zones.result (g.K.Sink.written c.args.sink.now)
    (g.K.Sink.written c.write_reports.new.sink) (c.running.ensures.run.0 c.if-not-running.false)
    c.give_up-zones.ensures.done c.in-Err.ensures.err
