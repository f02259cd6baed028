use Rattle.std.proofs.Common.{arith}
use Rattle.std.proofs.lemmas.Grind.{common_steps}
use Rattle.arena_table.proofs.index.Index.cover.Goals as goal

pub returns-clause-owned : goal.returns-clause-owned
returns-clause-owned c = λ z a. grind (arith, common_steps, c.cover_set.ensures.same z a)

pub returns-clause-open_ : goal.returns-clause-open_
returns-clause-open_ c = λ z a. grind (arith, common_steps, c.cover_set-2.ensures.same z a)

pub returns-clause-kept : goal.returns-clause-kept
returns-clause-kept c = λ z. grind (arith, common_steps, c.cover_set.ensures.kept z)

pub returns-clause-open_kept : goal.returns-clause-open_kept
returns-clause-open_kept c = λ z. grind (arith, common_steps, c.cover_set-2.ensures.kept z)
