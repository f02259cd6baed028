use Rattle.trace_cli.proofs.Flights.{out_runs}
use Rattle.trace_cli.proofs.Resetting.{taken_breaks, taken_on, weak_kept}
use Rattle.trace_cli.proofs.resets.take_in.Goals as goal

pub take_due-finished-requires-clause-ready : goal.take_due-finished-requires-clause-ready
take_due-finished-requires-clause-ready g c = record {
  sound = c.requires.flight.sound;
  running = out_runs c.args.collector.now (g.F.Flight.bits c.args.flight.now) c.args.arena c.requires.flight.sound
      c.requires.lowest.out;
  out = c.requires.flight.out;
}

pub returns-in-Ok-clause-ok : goal.returns-in-Ok-clause-ok
returns-in-Ok-clause-ok g c =
    let takes = c.take_due-finished.ensures.takes in
    taken_on c.args.collector.now c.take_due-finished.new.self (g.F.Flight.bits c.args.flight.now)
    (g.F.Flight.bits c.take_due-finished.new.flight) c.args.arena c.take_due-finished.new.report
    c.take_due-finished.result (g.K.Sink.written c.args.sink.now) (g.K.Sink.written c.write_reports.new.sink)
    (out_runs c.args.collector.now (g.F.Flight.bits c.args.flight.now) c.args.arena c.requires.flight.sound
    c.requires.lowest.out) c.take_due-finished.ensures.told takes.finished takes.done c.in-Ok.ensures.ok

pub returns-in-Ok-clause-flight : goal.returns-in-Ok-clause-flight
returns-in-Ok-clause-flight g c =
    let takes = c.take_due-finished.ensures.takes in record { sound = takes.sound; out = takes.out }

pub returns-in-Ok-clause-size : goal.returns-in-Ok-clause-size
returns-in-Ok-clause-size g c =
    let takes = c.take_due-finished.ensures.takes in
    weak_kept c.args.collector.now c.take_due-finished.new.self takes.made takes.ledger takes.weak

pub returns-in-Err-clause-flight : goal.returns-in-Err-clause-flight
returns-in-Err-clause-flight g c =
    let takes = c.take_due-finished.ensures.takes in record { sound = takes.sound; out = takes.out }

pub returns-in-Err-clause-size : goal.returns-in-Err-clause-size
returns-in-Err-clause-size g c =
    let takes = c.take_due-finished.ensures.takes in
    weak_kept c.args.collector.now c.take_due-finished.new.self takes.made takes.ledger takes.weak

pub returns-in-Err-clause-write : goal.returns-in-Err-clause-write
returns-in-Err-clause-write g c =
    let takes = c.take_due-finished.ensures.takes in
    taken_breaks c.args.collector.now c.take_due-finished.new.self (g.F.Flight.bits c.args.flight.now)
    (g.F.Flight.bits c.take_due-finished.new.flight) c.args.arena c.take_due-finished.new.report
    c.take_due-finished.result (g.K.Sink.written c.args.sink.now) (g.K.Sink.written c.write_reports.new.sink)
    (out_runs c.args.collector.now (g.F.Flight.bits c.args.flight.now) c.args.arena c.requires.flight.sound
    c.requires.lowest.out) c.take_due-finished.ensures.told takes.finished takes.done c.in-Err.ensures.err
