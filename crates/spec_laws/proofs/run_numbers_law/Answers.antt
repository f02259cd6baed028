use Rattle.spec_laws.proofs.RunNumbers.{numbers_in_run}
use Rattle.spec_laws.proofs.run_numbers_law.Goals as goal

pub returns : goal.returns
returns c = numbers_in_run
