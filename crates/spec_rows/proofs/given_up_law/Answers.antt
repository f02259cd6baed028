use Rattle.spec_rows.proofs.GivenUp.{given_up_lawful, not_gray_then}
use Rattle.spec_rows.proofs.given_up_law.Goals as goal

pub returns-clause-lawful : goal.returns-clause-lawful
returns-clause-lawful c = given_up_lawful

pub returns-clause-black : goal.returns-clause-black
returns-clause-black c = not_gray_then
