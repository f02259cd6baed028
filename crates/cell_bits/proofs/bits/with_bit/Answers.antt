use Rattle.cell_bits.proofs.Words.{bit_at-set}
use Rattle.cell_bits.proofs.bits.with_bit.Goals as goal

pub returns : goal.returns
returns c = λ s. bit_at-set c.args.word c.args.slot s c.requires
