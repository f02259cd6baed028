-- What a caller has.
use Rattle.std.specs.Prelude.{ℕ, Bool, List, Option}
use Rattle.mark_words.specs.declared.view.MarkView.{MarkView}
use Rattle.par_mark.specs.declared.donations.QueueView.{QueueView}
use Rattle.par_mark.specs.declared.lists.Lists.{Lists}
use Rattle.par_mark.specs.Accounts.{Accounts}
use Rattle.par_mark.specs.Lists.{outside_of, tries_of, won_of}

-- a caller's lists, and what its seat and its pass know
pub record CallerState : Type 0 where
  pub tries : List (ℕ × ℕ)
  -- the cells that it won and has not scanned yet
  pub won : List (ℕ × ℕ)
  pub outside : List (ℕ × ℕ)
  pub seat : MarkView
  pub pass : QueueView

abbrev pub state_of : Lists → MarkView → QueueView → CallerState
state_of l v d = record { tries = tries_of l; won = won_of l; outside = outside_of l; seat = v; pass = d }

-- the conservation law of a caller that has this try in its hand and has not scanned these cells yet
abbrev pub AccountsAt : (ℕ × ℕ → ℕ → Option (ℕ × ℕ)) → (ℕ × ℕ → Bool) → (ℕ × ℕ → Type 0) → List (ℕ × ℕ)
    → List (ℕ × ℕ) → List (ℕ × ℕ) → CallerState → Type 0
AccountsAt edge marking P firsts held unscanned s =
    Accounts edge marking P firsts held unscanned s.tries s.outside s.seat s.pass
