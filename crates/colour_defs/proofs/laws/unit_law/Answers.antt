use Rattle.colour_defs.proofs.ValidReports.{unit_valid}
use Rattle.colour_defs.proofs.laws.unit_law.Goals as goal

pub returns : goal.returns
returns c = λ w v reports ok done. unit_valid w ok done
