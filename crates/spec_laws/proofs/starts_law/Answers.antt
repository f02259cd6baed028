use Rattle.spec_laws.proofs.Starts.{answer_starts, first_units}
use Rattle.spec_laws.proofs.starts_law.Goals as goal

pub returns-clause-whole : goal.returns-clause-whole
returns-clause-whole c = λ w v command reports answer. answer_starts w command reports answer v

pub returns-clause-first_units : goal.returns-clause-first_units
returns-clause-first_units c = λ w v units more. first_units w units more v
