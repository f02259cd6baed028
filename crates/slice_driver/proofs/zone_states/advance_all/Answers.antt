use Rattle.zone_edges.proofs.Looking.{fewer_zones}
use Rattle.slice_driver.proofs.taking_in.Advancing.{advanced_next}
use Rattle.slice_driver.proofs.zone_states.advance_all.Goals as goal

pub zones-preserved : goal.zones-preserved
zones-preserved c = record {
  advanced = advanced_next c.args.zones.bits c.zones.left.bits c.in-Some.zone c.args.heap.now c.zones.heap
      c.zones.invariant.advanced c.in-Some.ensures.some c.remove.new.self.bits c.remove.ensures c.advance.new.self
      c.advance.ensures;
}

pub zones-smaller : goal.zones-smaller
zones-smaller c = fewer_zones c.remove.new.self.bits c.zones.left.bits c.in-Some.zone c.remove.ensures
    c.in-Some.ensures.some
