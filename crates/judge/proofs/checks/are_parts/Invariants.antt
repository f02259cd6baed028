use Rattle.std.proofs.Common.{take}
use Rattle.judge.specs.Parts.{ArePartsSoFar}
use Rattle.judge.proofs.checks.are_parts.Given as goal

abbrev pub invariant-loop-group : goal.invariant-loop-group
invariant-loop-group l = ArePartsSoFar l.zones l.seen (take l.group-index l.groups)
