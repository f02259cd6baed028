use Rattle.zone_edges.specs.Sets.{size}
use Rattle.slice_driver.proofs.taking_in.Advancing.{HasAdvanced}
use Rattle.slice_driver.proofs.zone_states.advance_all.Given as goal

abbrev pub invariant-zones : goal.invariant-zones
invariant-zones l = record {
  advanced : HasAdvanced l.fn.zones.bits l.left.bits l.fn.heap l.heap;
}

abbrev pub decreases-zones : goal.decreases-zones
decreases-zones l = size 64 l.left.bits
