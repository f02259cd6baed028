use Rattle.zone_edges.proofs.Looking.{fewer_zones}
use Rattle.zone_edges.proofs.look.next_in_any.Goals as goal

pub zones-smaller : goal.zones-smaller
zones-smaller c = fewer_zones c.remove.new.self.bits c.zones.rest.bits c.in-Some.zone c.remove.ensures
    c.in-Some.ensures.some
