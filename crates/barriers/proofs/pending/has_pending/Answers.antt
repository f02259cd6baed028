use Rattle.barriers.proofs.Queueing.{pending_some}
use Rattle.barriers.proofs.pending.has_pending.Goals as goal

pub returns-then-not-is_empty : goal.returns-then-not-is_empty
returns-then-not-is_empty c = rw c.if-not-is_empty.true
    (pending_some c.args.heap.now c.args.stack.now c.args.pile c.if-not-is_empty.ensures)
