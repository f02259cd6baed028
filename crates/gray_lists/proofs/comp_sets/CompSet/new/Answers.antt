use Rattle.std.proofs.Common.{◌∷◌, []}
use Rattle.gray_lists.proofs.Headed.{HasComp-empty, IsEnd-none}
use Rattle.gray_lists.proofs.comp_sets.CompSet.new.Goals as goal

pub returns-clause-none : goal.returns-clause-none
returns-clause-none c = HasComp-empty

pub returns-clause-end : goal.returns-clause-end
returns-clause-end c = IsEnd-none (0 ∷ 0 ∷ 0 ∷ 0 ∷ []) HasComp-empty
