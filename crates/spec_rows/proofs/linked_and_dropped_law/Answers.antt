use Rattle.spec_rows.proofs.LinkedAndDropped.{linked_and_dropped_lawful}
use Rattle.spec_rows.proofs.FreedCellMissed.{freed_cell_is_missed}
use Rattle.spec_rows.proofs.linked_and_dropped_law.Goals as goal

pub returns-clause-lawful : goal.returns-clause-lawful
returns-clause-lawful c = linked_and_dropped_lawful

pub returns-clause-freed : goal.returns-clause-freed
returns-clause-freed c = freed_cell_is_missed
