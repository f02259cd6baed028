-- What scanning cells does.
use Rattle.std.specs.Prelude.{◌≡◌, ℕ, ◌+◌, Bool, true, List, [], ◌++◌, All}
use Rattle.mark_words.specs.declared.view.MarkView.{MarkView}
use Rattle.mark_words.specs.Steps.{HasTried}
use Rattle.mark_words.specs.Sums.{weigh}

-- a caller's tries, and what its seat knows
abbrev pub Tries : Type 0
Tries = List (ℕ × ℕ) × MarkView

-- these targets became tries, but for those in marking zones that looks found black, and so have tried
pub record HasScanned (marking : ℕ × ℕ → Bool) (targets : List (ℕ × ℕ)) (s s' : Tries) : Type 0 where
  pub rest : List (ℕ × ℕ)
  pub seen : List (ℕ × ℕ)
  -- each target as often
  pub parts_are : (h : ℕ × ℕ → ℕ) → weigh h rest + weigh h seen ≡ weigh h targets
  pub tries_are : s'.0 ≡ s.0 ++ rest
  pub looked : HasTried s.1 seen [] s'.1
  pub inside : All (λ q. marking q ≡ true) seen
