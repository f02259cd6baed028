use Rattle.gz_names.proofs.ZoneCounts.{zones_below}
use Rattle.judge.specs.Edges.{IsNoted}
use Rattle.judge.proofs.ZoneEdges.{Searches}
use Rattle.judge.proofs.edges.reached_in.Given as goal

abbrev pub invariant-zones : goal.invariant-zones
invariant-zones l = Searches (IsNoted l.edges) l.group l.fn.start l.reached l.rest

abbrev pub decreases-zones : goal.decreases-zones
decreases-zones l = zones_below 64 l.rest.bits
