use Rattle.std.proofs.Common.{subst, sym, take}
use Rattle.gz_names.specs.Zones.{HasZone}
use Rattle.zone_edges.specs.Groups.{AreComponents}
use Rattle.zone_edges.proofs.Parts.{components_found}
use Rattle.zone_edges.proofs.edges.Edges.components.Goals as goal

pub returns : goal.returns
returns c =
    rw c.found.ensures (subst
    (λ v. AreComponents v.sources v.zones (take c.self.inside.search.count c.self.inside.search.groups))
    c.self.view_is (components_found c.self.inside.search c.self.invariant.search c.self.invariant.idle
    (λ z h. c.self.invariant.stepped_seen z
    (subst (λ v. HasZone v.zones.bits z → HasZone v.stepped.bits z) (sym c.self.view_is) (c.requires z) h))))
