use Rattle.spec_rows.proofs.WeaklyNamed.{weakly_named_lawful}
use Rattle.spec_rows.proofs.WeaklyMissed.{slot_keeps_nothing}
use Rattle.spec_rows.proofs.weakly_named_law.Goals as goal

pub returns-clause-lawful : goal.returns-clause-lawful
returns-clause-lawful c = weakly_named_lawful

pub returns-clause-nothing_named : goal.returns-clause-nothing_named
returns-clause-nothing_named c = slot_keeps_nothing
