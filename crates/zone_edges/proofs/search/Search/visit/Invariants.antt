use Rattle.gz_names.specs.Zones.{HasZone}
use Rattle.zone_edges.specs.Walk.{IsSearch, Follows, left}
use Rattle.zone_edges.proofs.search.Search.visit.Given as goal

abbrev pub invariant-walk : goal.invariant-walk
invariant-walk l = record {
  search : IsSearch l.self;
  follows : Follows l.fn.self l.self;
  seen : HasZone l.self.seen.bits l.fn.zone;
}

abbrev pub decreases-walk : goal.decreases-walk
decreases-walk l = left l.self
