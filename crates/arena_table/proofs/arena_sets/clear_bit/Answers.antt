use Rattle.arena_table.proofs.WordBits.{arena_bit-clear}
use Rattle.arena_table.proofs.arena_sets.clear_bit.Goals as goal

pub returns-clause-bits : goal.returns-clause-bits
returns-clause-bits c = λ other. arena_bit-clear c.args.words.now c.args.index other c.requires
