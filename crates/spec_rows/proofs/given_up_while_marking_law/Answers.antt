use Rattle.spec_rows.proofs.GivenUpWhileMarking.{given_up_while_marking_lawful, not_gray_after_marking}
use Rattle.spec_rows.proofs.given_up_while_marking_law.Goals as goal

pub returns-clause-lawful : goal.returns-clause-lawful
returns-clause-lawful c = given_up_while_marking_lawful

pub returns-clause-black : goal.returns-clause-black
returns-clause-black c = not_gray_after_marking
