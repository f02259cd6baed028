use Rattle.collection_laws.proofs.Zones.{zones_kept}
use Rattle.collection_laws.proofs.zones_law.Goals as goal

pub returns : goal.returns
returns c = zones_kept
