use Rattle.spec_rows.proofs.MadeWhilePreparing.{made_while_preparing_lawful, freed_cell_is_missed_too}
use Rattle.spec_rows.proofs.made_while_preparing_law.Goals as goal

pub returns-clause-lawful : goal.returns-clause-lawful
returns-clause-lawful c = made_while_preparing_lawful

pub returns-clause-freed : goal.returns-clause-freed
returns-clause-freed c = freed_cell_is_missed_too
