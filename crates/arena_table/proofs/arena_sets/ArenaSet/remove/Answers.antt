use Rattle.std.proofs.Common.{arith}
use Rattle.std.proofs.lemmas.Grind.{common_steps}
use Rattle.arena_table.proofs.arena_sets.ArenaSet.remove.Goals as goal

pub returns-clause-bits : goal.returns-clause-bits
returns-clause-bits c = λ a. grind (arith, common_steps, c.remove_from.ensures.bits a)
