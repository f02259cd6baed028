use Rattle.std.proofs.Common.{Contains, take}
use Rattle.judge.specs.LeftOut.{Keeps}
use Rattle.judge.proofs.preparation.Preparation.add_all_kept.Given as goal

abbrev pub invariant-loop-pair : goal.invariant-loop-pair
invariant-loop-pair l = Keeps l.graph (λ m k. Contains (take l.pair-index l.pairs) (m, k)) l.fn.self l.self
