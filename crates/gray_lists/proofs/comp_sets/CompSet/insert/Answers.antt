use Rattle.std.proofs.Common.{arith}
use Rattle.gray_lists.proofs.Headed.{HasComp-more}
use Rattle.gray_lists.proofs.comp_sets.CompSet.insert.Goals as goal

pub returns-clause-added : goal.returns-clause-added
returns-clause-added c = HasComp-more _ c.args.comp.0 c.with_bit.result (omega arith) c.with_bit.ensures
