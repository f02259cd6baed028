use Rattle.std.proofs.Common.{take}
use Rattle.judge.proofs.ZoneEdges.{NoneSoFar}
use Rattle.judge.proofs.edges.is_key.Given as goal

abbrev pub invariant-loop-pair : goal.invariant-loop-pair
invariant-loop-pair l = NoneSoFar l.graph l.places l.name (take l.pair-index l.pair-items)
