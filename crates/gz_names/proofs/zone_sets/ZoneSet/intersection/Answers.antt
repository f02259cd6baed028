use Rattle.gz_names.proofs.Words.{HasZone-and}
use Rattle.gz_names.proofs.zone_sets.ZoneSet.intersection.Goals as goal

pub returns : goal.returns
returns c = λ z. HasZone-and _ _ z
