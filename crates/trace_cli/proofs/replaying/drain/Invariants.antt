use Rattle.std.proofs.Common.{◌≡◌, length}
use Rattle.trace_cli.proofs.replaying.drain.Given as goal

abbrev pub invariant-loop-flight : goal.invariant-loop-flight
invariant-loop-flight g l =
    g.F.Sweeping.home (g.F.Flight.origin l.flight) ≡ g.F.Sweeping.home (g.F.Flight.origin l.fn.flight)

abbrev pub decreases-loop-flight : goal.decreases-loop-flight
decreases-loop-flight g l = length (g.F.Sweeping.left (g.F.Flight.origin l.flight))
