use Rattle.std.proofs.Common.{Contains, Some, take}
use Rattle.judge.specs.LeftOut.{Adds}
use Rattle.judge.proofs.preparation.Preparation.add_held.Given as goal

abbrev pub invariant-loop-held : goal.invariant-loop-held
invariant-loop-held l = Adds l.graph l.fn.self l.self (λ x. Contains (take l.held-index l.fields) (Some x))
