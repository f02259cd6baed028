use Rattle.group_laws.proofs.Listed.{components_are_lawful}
use Rattle.group_laws.proofs.components_law.Goals as goal

pub returns : goal.returns
returns c = components_are_lawful
