use Rattle.spec_laws.proofs.Dumped.{dump_sound}
use Rattle.spec_laws.proofs.dump_law.Goals as goal

pub returns : goal.returns
returns c = λ w lines ok settled d. dump_sound w ok settled lines d
