use Rattle.wrappers.proofs.Lists.{AreDropped}
use Rattle.gz_names.proofs.ZoneCounts.{zones_below}
use Rattle.wrappers.proofs.wrapper_maps.drop_in_zones.Given as goal

abbrev pub invariant-loop-zone : goal.invariant-loop-zone
invariant-loop-zone g l = AreDropped l.initial.maps l.maps l.fn.zones.bits (goal.D-post g l.dead) l.left.bits

abbrev pub decreases-loop-zone : goal.decreases-loop-zone
decreases-loop-zone g l = zones_below 64 l.left.bits
