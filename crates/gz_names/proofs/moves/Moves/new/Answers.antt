use Rattle.std.proofs.Common.{List, [], sym, subst}
use Rattle.gz_names.specs.declared.moves.Leaving.{Leaving}
use Rattle.gz_names.specs.declared.moves.Move.{Move}
use Rattle.gz_names.specs.Moves.{AreKept}
use Rattle.gz_names.proofs.Moving.{AreKept-nil}
use Rattle.gz_names.proofs.moves.Moves.new.Goals as goal

pub invariant_of-result : goal.invariant_of-result
invariant_of-result c =
    subst (λ (ms : List Move). AreKept ms c.new-2.result.items) (sym c.new.ensures.items)
    (subst (λ (ls : List Leaving). AreKept [] ls) (sym c.new-2.ensures.items) AreKept-nil)
