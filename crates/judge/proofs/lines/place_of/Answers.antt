use Rattle.std.proofs.Common.{arith}
use Rattle.judge.proofs.Bytes.{lacks_more}
use Rattle.judge.proofs.lines.place_of.Goals as goal

pub loop-i-preserved : goal.loop-i-preserved
loop-i-preserved c =
    lacks_more c.args.wanted c.args.bytes.now c.loop-i.i (omega arith) c.loop-i.invariant c.if-byte-wanted.false
