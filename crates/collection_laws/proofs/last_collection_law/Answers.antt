use Rattle.collection_laws.proofs.LastLines.{run_collected}
use Rattle.collection_laws.proofs.last_collection_law.Goals as goal

pub returns : goal.returns
returns c = run_collected
