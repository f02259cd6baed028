use Rattle.std.proofs.Common.{ℕ}
use Rattle.gz_names.proofs.ZoneCounts.{zones_below}
use Rattle.gz_names.specs.Zones.{HasZone}
use Rattle.judge.specs.Edges.{IsNoted}
use Rattle.judge.proofs.ZoneEdges.{LeadsAllSoFar}
use Rattle.judge.proofs.edges.zone_apart.Given as goal

abbrev pub invariant-zones : goal.invariant-zones
invariant-zones l = record {
  within : (z : ℕ) → HasZone l.rest.bits z → HasZone l.group.bits z;
  so : LeadsAllSoFar (IsNoted l.edges) l.group l.rest;
}

abbrev pub decreases-zones : goal.decreases-zones
decreases-zones l = zones_below 64 l.rest.bits
