use Rattle.arena_table.proofs.WordBits.{bit_at-marked}
use Rattle.arena_table.proofs.store.with_bit.Goals as goal

pub returns : goal.returns
returns c = λ s. bit_at-marked c.args.word c.args.slot c.ranges.word.fits c.requires.slot c.args.bit s c.requires.bit
