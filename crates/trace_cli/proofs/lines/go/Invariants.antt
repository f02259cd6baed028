use Rattle.std.proofs.Common.{◌≡◌}
use Rattle.trace_cli.specs.Standing.{Entry, IsStanding, Standing, turns_left}
use Rattle.trace_cli.proofs.lines.go.Given as goal

abbrev pub invariant-loop-machine : goal.invariant-loop-machine
invariant-loop-machine g l = record {
  standing : IsStanding l.machine (g.S.CommandSource.input l.source) (g.K.Sink.written l.sink)
      (g.K.Sink.faults l.sink) (g.F.Sweeping.left (g.F.Flight.origin l.flight)) (g.F.Flight.bits l.flight);
  stands : (e : Entry) → Standing e l.fn.machine (g.S.CommandSource.input l.fn.source)
      (g.K.Sink.written l.fn.sink) (g.K.Sink.faults l.fn.sink) (g.F.Sweeping.left (g.F.Flight.origin l.fn.flight))
      (g.F.Flight.bits l.fn.flight)
      → Standing e l.machine (g.S.CommandSource.input l.source) (g.K.Sink.written l.sink)
      (g.K.Sink.faults l.sink) (g.F.Sweeping.left (g.F.Flight.origin l.flight)) (g.F.Flight.bits l.flight);
  home : g.F.Sweeping.home (g.F.Flight.origin l.flight) ≡ g.F.Sweeping.home (g.F.Flight.origin l.fn.flight);
  ledger : l.machine.collector.heap.ledger ≡ l.fn.machine.collector.heap.ledger;
  lender : g.S.CommandSource.lender l.source ≡ g.S.CommandSource.lender l.fn.source;
}

abbrev pub decreases-loop-machine : goal.decreases-loop-machine
decreases-loop-machine g l = turns_left l.machine
