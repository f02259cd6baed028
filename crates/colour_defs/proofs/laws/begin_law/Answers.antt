use Rattle.colour_defs.proofs.ValidReports.{prepare_valid, begin_valid}
use Rattle.colour_defs.proofs.laws.begin_law.Goals as goal

pub returns-clause-prepares : goal.returns-clause-prepares
returns-clause-prepares c = λ w v zones. prepare_valid w zones v

pub returns-clause-begins : goal.returns-clause-begins
returns-clause-begins c = λ w v zones. begin_valid w zones v
