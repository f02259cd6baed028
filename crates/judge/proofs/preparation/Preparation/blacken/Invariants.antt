use Rattle.judge.proofs.LeftOut.{GoesOnLeft}
use Rattle.judge.proofs.preparation.Preparation.blacken.Given as goal

abbrev pub invariant-loop-place : goal.invariant-loop-place
invariant-loop-place l = GoesOnLeft l.graph l.fn.name l.fn.self l.self l.place
