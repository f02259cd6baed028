use Rattle.std.proofs.Common.{◌≡◌, take}
use Rattle.zone_edges.proofs.search.Search.found.Given as goal

abbrev pub invariant-copy : goal.invariant-copy
invariant-copy l = l.groups ≡ take l.index l.self.groups
