-- What a turn asks of a caller.
use Rattle.std.specs.Prelude.{◌≡◌, ℕ, ◌+◌, ◌<◌, ◌≤◌, Bool, List, [], length, Option, vec_capacity}
use Rattle.mark_words.specs.declared.view.MarkView.{MarkView}
use Rattle.mark_words.specs.Sums.{weigh}
use Rattle.par_mark.specs.declared.donations.QueueView.{QueueView}
use Rattle.par_mark.specs.declared.lists.Lists.{Lists}
use Rattle.par_mark.specs.Accounts.{HasRoom}
use Rattle.par_mark.specs.Lists.{outside_of, tries_room, won_of}
use Rattle.par_mark.specs.States.{AccountsAt, state_of}

-- a caller accounts for all that it began with, has scanned all that it won, and has room for a turn of this number of
-- tries
pub record MayTurn (edge : ℕ × ℕ → ℕ → Option (ℕ × ℕ)) (marking : ℕ × ℕ → Bool) (P : ℕ × ℕ → Type 0) (most : ℕ)
    (l : Lists) (v : MarkView) (d : QueueView) : Type 0 where
  pub firsts : List (ℕ × ℕ)
  pub accounts : AccountsAt edge marking P firsts [] [] (state_of l v d)
  pub tries_have : HasRoom edge marking P (weigh (λ _. 1) firsts) (tries_room l)
  pub some_tries : 0 < most
  pub none_left : won_of l ≡ []
  pub won_has : most ≤ vec_capacity l.won
  pub outside_has : length (outside_of l) + most ≤ vec_capacity l.outside
