use Rattle.roots.proofs.Buffering.{waiting-more}
use Rattle.roots.proofs.buffers.count_waiting.Goals as goal

pub loop-buffer-preserved : goal.loop-buffer-preserved
loop-buffer-preserved c =
    rw c.len-count.ensures (waiting-more c.args.buffers.now c.loop-buffer.buffer-index c.loop-buffer.count
    c.buffer-item.result c.loop-buffer-test.true c.buffer-item.is c.loop-buffer.invariant)
