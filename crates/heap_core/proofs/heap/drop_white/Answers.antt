use Rattle.std.proofs.Common.{arith}
use Rattle.heap_core.proofs.Dropping.{without_white}
use Rattle.heap_core.proofs.heap.drop_white.Goals as goal

pub returns-clause-dropped : goal.returns-clause-dropped
returns-clause-dropped c =
    without_white c.args.job c.white_mask.result (omega arith) (omega arith) c.white_mask.ensures.slots
    c.args.weak.now.table c.drop_entries_in.new.self.table c.drop_entries_in.ensures.dropped
