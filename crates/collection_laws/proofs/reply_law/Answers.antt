use Rattle.collection_laws.proofs.Replies.{answered}
use Rattle.collection_laws.proofs.reply_law.Goals as goal

pub returns : goal.returns
returns c = λ g command done. (answered g command).says done
