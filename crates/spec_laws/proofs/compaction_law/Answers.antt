use Rattle.spec_laws.proofs.Tight.{compact_tight}
use Rattle.spec_laws.proofs.compaction_law.Goals as goal

pub returns : goal.returns
returns c = λ w v zone moved given h. compact_tight w zone moved given v h
