use Rattle.arena_table.proofs.WordBits.{arena_bit-set}
use Rattle.arena_table.proofs.arena_sets.set_bit.Goals as goal

pub returns-clause-bits : goal.returns-clause-bits
returns-clause-bits c = λ other. arena_bit-set c.args.words.now c.args.index other c.requires
