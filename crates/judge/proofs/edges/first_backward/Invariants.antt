use Rattle.std.proofs.Common.{take}
use Rattle.judge.specs.Edges.{IsNoted}
use Rattle.judge.proofs.ZoneEdges.{ForwardSoFar}
use Rattle.judge.proofs.edges.first_backward.Given as goal

abbrev pub invariant-loop-group : goal.invariant-loop-group
invariant-loop-group l = ForwardSoFar (IsNoted l.edges) l.earlier (take l.group-index l.groups)
