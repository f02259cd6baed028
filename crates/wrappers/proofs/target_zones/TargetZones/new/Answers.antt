use Rattle.wrappers.proofs.NotedZones.{noted-nowhere}
use Rattle.wrappers.proofs.target_zones.TargetZones.new.Goals as goal

pub returns : goal.returns
returns c = noted-nowhere c.new.result c.new.ensures.none 64
