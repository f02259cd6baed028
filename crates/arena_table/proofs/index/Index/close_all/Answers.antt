use Rattle.std.proofs.Common.{arith}
use Rattle.std.proofs.lemmas.Grind.{common_steps}
use Rattle.arena_table.proofs.index.Index.close_all.Goals as goal

pub returns-clause-bits : goal.returns-clause-bits
returns-clause-bits c = λ z a h. grind (arith, common_steps, c.clear_sets.ensures.bits z a h)

pub returns-clause-room : goal.returns-clause-room
returns-clause-room c = λ z. grind (arith, common_steps, c.clear_sets.ensures.room z)

pub returns-clause-others : goal.returns-clause-others
returns-clause-others c = λ z h. grind (arith, common_steps, c.clear_sets.ensures.others z h)
