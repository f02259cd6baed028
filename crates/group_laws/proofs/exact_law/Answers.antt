use Rattle.group_laws.proofs.Exact.{groups_are_components}
use Rattle.group_laws.proofs.exact_law.Goals as goal

pub returns : goal.returns
returns c = groups_are_components
