use Rattle.slice_driver.specs.Left.{units_left}
use Rattle.slice_driver.specs.Units.{none_flown}
use Rattle.trace_cli.specs.Quiet.{GoesQuietly}
use Rattle.trace_cli.proofs.replaying.mark_until.Given as goal

abbrev pub invariant-loop-collector : goal.invariant-loop-collector
invariant-loop-collector g l = GoesQuietly l.fn.collector l.collector

abbrev pub decreases-loop-collector : goal.decreases-loop-collector
decreases-loop-collector g l = units_left l.collector none_flown
