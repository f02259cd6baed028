use Rattle.std.proofs.Common.{ℕ, ◌-◌, ◌∙◌, List, length, ap}
use Rattle.std.specs.Prelude.{slice_get}
use Rattle.judge.proofs.Stages.{last_first}
use Rattle.judge.proofs.arenas.Arenas.first_out.Goals as goal

pub returns-clause-some : goal.returns-clause-some
returns-clause-some c =
    last_first c.args.self.now.out.items c.copied.result
    (c.copied.ensures ∙ c.last.ensures.value ∙ ap (λ (xs : List ℕ). slice_get xs (length xs - 1)) c.deref.ensures.value)
