use Rattle.std.proofs.Common.{◌<◌, ◌≡◌, ◌+◌, ◌^◌}
use Rattle.slice_driver.specs.Left.{units_left}
use Rattle.trace_cli.specs.Pending.{done_of}
use Rattle.trace_cli.specs.Standing.{MakesNone, StandsWith}
use Rattle.trace_cli.specs.Writing.{Goes}
use Rattle.trace_cli.proofs.turns.answer_units.Given as goal

abbrev pub invariant-loop-collector : goal.invariant-loop-collector
invariant-loop-collector g l = StandsWith l.collector (g.F.Sweeping.left (g.F.Flight.origin l.flight))
    (g.F.Flight.bits l.flight)
    × (done_of l.pending + units_left l.collector (g.F.Flight.bits l.flight) < 2 ^ 64)
    × Goes l.fn.collector (g.F.Flight.bits l.fn.flight) l.fn.pending l.collector (g.F.Flight.bits l.flight) l.pending
    (g.K.Sink.written l.fn.sink) (g.K.Sink.written l.sink)
    × MakesNone l.fn.collector l.collector
    × (g.K.Sink.faults l.sink ≡ g.K.Sink.faults l.fn.sink)
    × (g.F.Sweeping.home (g.F.Flight.origin l.flight) ≡ g.F.Sweeping.home (g.F.Flight.origin l.fn.flight))

abbrev pub decreases-loop-collector : goal.decreases-loop-collector
decreases-loop-collector g l = units_left l.collector (g.F.Flight.bits l.flight)
