use Rattle.std.proofs.Common.{arith}
use Rattle.trace_lang.proofs.Spelling.{word_more}
use Rattle.trace_lang.proofs.lines.split_at_space.Goals as goal

pub loop-byte-preserved : goal.loop-byte-preserved
loop-byte-preserved c = (
  omega arith,
  word_more c.args.text.now c.loop-byte.byte-index c.loop-byte-test.true c.loop-byte.invariant.1
      c.if-byte-eq32.false,
)
