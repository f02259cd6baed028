use Rattle.std.proofs.Common.{take}
use Rattle.judge.specs.Edges.{AreStrong, IsNoted}
use Rattle.judge.proofs.edges.first_apart.Given as goal

abbrev pub invariant-loop-group : goal.invariant-loop-group
invariant-loop-group l = AreStrong (IsNoted l.edges) (take l.group-index l.groups)
