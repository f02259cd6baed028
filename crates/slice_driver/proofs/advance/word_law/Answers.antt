use Rattle.std.proofs.Common.{arith}
use Rattle.slice_driver.proofs.group_end.Steps.{small_word}
use Rattle.slice_driver.proofs.advance.word_law.Goals as goal

pub returns : goal.returns
returns c = small_word c.args.zones.bits (omega arith)
