use Rattle.std.proofs.Math.ListN.{length-replicate}
use Rattle.gz_names.specs.declared.zone_sets.ZoneSet.{ZoneSet}
use Rattle.zone_edges.specs.Sets.{no_zones}
use Rattle.gz_names.proofs.Words.{HasZone-none}
use Rattle.zone_edges.proofs.Parts.{started, no_edges}
use Rattle.zone_edges.proofs.search.Search.new.Goals as goal

pub returns-clause-search : goal.returns-clause-search
returns-clause-search c = started c.args.zones _ _ _ (length-replicate {A = ZoneSet} 64 no_zones)
    (length-replicate {A = ZoneSet} 64 no_zones) (length-replicate {A = ZoneSet} 64 no_zones)

pub returns-clause-edges : goal.returns-clause-edges
returns-clause-edges c = no_edges

pub returns-clause-unseen : goal.returns-clause-unseen
returns-clause-unseen c = HasZone-none
