use Rattle.storm_source.proofs.Spelled.{storm_spells}
use Rattle.storm_source.proofs.Exact.{storm_exact}
use Rattle.storm_source.proofs.laws.storm_law.Goals as goal

pub returns-clause-stand : goal.returns-clause-stand
returns-clause-stand c = storm_spells

pub returns-clause-only : goal.returns-clause-only
returns-clause-only c = storm_exact
