use Rattle.judge.proofs.Lying.{LaysSoFar}
use Rattle.judge.proofs.compaction.lying_in.Given as goal

abbrev pub invariant-loop-name : goal.invariant-loop-name
invariant-loop-name l = LaysSoFar l.arenas l.places l.name-iterator l.lying
