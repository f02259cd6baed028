use Rattle.std.proofs.Common.{ℕ}
use Rattle.gz_names.proofs.ZoneCounts.{zones_below}
use Rattle.gz_names.specs.Zones.{HasZone}
use Rattle.judge.specs.Edges.{IsNoted}
use Rattle.judge.proofs.edges.edge_into.Given as goal

abbrev pub invariant-zones : goal.invariant-zones
invariant-zones l = record {
  within : (z : ℕ) → HasZone l.rest.bits z → HasZone l.fn.from.bits z;
  none : (a b : ℕ) → HasZone l.fn.from.bits a → HasZone l.to.bits b → IsNoted l.edges a b → HasZone l.rest.bits a;
}

abbrev pub decreases-zones : goal.decreases-zones
decreases-zones l = zones_below 64 l.rest.bits
