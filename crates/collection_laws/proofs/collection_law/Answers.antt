use Rattle.collection_laws.proofs.Collecting.{collected_in_run}
use Rattle.collection_laws.proofs.collection_law.Goals as goal

pub returns : goal.returns
returns c = collected_in_run
