use Rattle.spec_rows.proofs.WeaklyNamed.{compacted_lawful}
use Rattle.spec_rows.proofs.WeaklyMissed.{arena_is_given_up}
use Rattle.spec_rows.proofs.compacted_law.Goals as goal

pub returns-clause-lawful : goal.returns-clause-lawful
returns-clause-lawful c = compacted_lawful

pub returns-clause-none_kept : goal.returns-clause-none_kept
returns-clause-none_kept c = arena_is_given_up
