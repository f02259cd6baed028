use Rattle.std.proofs.Common.{◌≡◌}
use Rattle.slice_driver.specs.Left.{units_left}
use Rattle.trace_cli.specs.Standing.{MakesNone, StandsWith}
use Rattle.trace_cli.specs.Writing.{GoesOnReset}
use Rattle.trace_cli.proofs.resets.answer_reset.Given as goal

abbrev pub invariant-loop-arena : goal.invariant-loop-arena
invariant-loop-arena g l = record {
  stands : StandsWith l.collector (g.F.Sweeping.left (g.F.Flight.origin l.flight)) (g.F.Flight.bits l.flight);
  goes : GoesOnReset l.fn.collector (g.F.Flight.bits l.fn.flight) l.collector (g.F.Flight.bits l.flight)
      (g.K.Sink.written l.fn.sink) (g.K.Sink.written l.sink);
  size : MakesNone l.fn.collector l.collector;
  faults : g.K.Sink.faults l.sink ≡ g.K.Sink.faults l.fn.sink;
  home : g.F.Sweeping.home (g.F.Flight.origin l.flight) ≡ g.F.Sweeping.home (g.F.Flight.origin l.fn.flight);
}

abbrev pub decreases-loop-arena : goal.decreases-loop-arena
decreases-loop-arena g l = units_left l.collector (g.F.Flight.bits l.flight)
