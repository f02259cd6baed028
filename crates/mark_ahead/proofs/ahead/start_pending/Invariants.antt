use Rattle.std.proofs.Common.{length}
use Rattle.barriers.specs.Pending.{pending}
use Rattle.mark_ahead.proofs.AllStarted.{StartsSome}
use Rattle.mark_ahead.proofs.ahead.start_pending.Given as goal

abbrev pub invariant-loop-cell : goal.invariant-loop-cell
invariant-loop-cell l = StartsSome l.fn.heap l.fn.stack l.heap l.stack

abbrev pub decreases-loop-cell : goal.decreases-loop-cell
decreases-loop-cell l = length (pending l.heap l.stack).black
