-- Visits of arenas, one after another.
use Rattle.std.proofs.Common.{◌≡◌, ℕ, suc, ◌+◌, List, subst, arith}
use Rattle.sweep_board.specs.declared.view.Visit.{Visit}
use Rattle.helper_sweep.specs.Walks.{VisitsArena, VisitsBelow}

pub visits_more : (gate : ℕ) (passed : ℕ → Type 0) (n : ℕ) (old before new : List Visit)
    → VisitsBelow gate passed n old before
    → VisitsArena gate passed n before new → VisitsBelow gate passed (n + 1) old new
visits_more gate passed n old before new was here =
    subst (λ k. VisitsBelow gate passed k old new) (let e : suc n ≡ n + 1 = omega arith in e) (before, was, here)
