use Rattle.spec_rows.proofs.MadeWhileMarking.{made_while_marking_lawful}
use Rattle.spec_rows.proofs.made_while_marking_law.Goals as goal

pub returns : goal.returns
returns c = made_while_marking_lawful
