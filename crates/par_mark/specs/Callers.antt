-- What a caller begins with and ends with.
use Rattle.std.specs.Prelude.{◌≡◌, ℕ, ◌+◌, ◌<◌, ◌≤◌, Bool, true, false, List, [], ◌∷◌, Option, All, vec_capacity}
use Rattle.crossbeam_queue.specs.Passes.{view}
use Rattle.mark_words.specs.Sums.{weigh, times}
use Rattle.mark_words.specs.Rule.{bit_of}
use Rattle.mark_words.specs.Steps.{KnowsAll}
use Rattle.mark_ahead.specs.Edges.{out}
use Rattle.mark_words.specs.Seats.{view_of}
use Rattle.mark_words.specs.Views.{new_log}
use Rattle.mark_words.specs.declared.view.MarkLog.{MarkLog}
use Rattle.par_mark.specs.declared.caller.Caller.{Caller}
use Rattle.par_mark.specs.Accounts.{Accounts, HasRoom}
use Rattle.par_mark.specs.Lists.{AreAsLarge, batch, tries_of, tries_room, won_of, outside_of}
use Rattle.mark_words.specs.declared.view.MarkView.{MarkView}
use Rattle.par_mark.specs.declared.donations.Moves.{Moves}
use Rattle.par_mark.specs.declared.donations.QueueView.{QueueView}
use Rattle.par_mark.specs.Donations.{new_moves}
use Rattle.par_mark.specs.declared.lists.Lists.{Lists}
use Rattle.par_mark.specs.Tries.{TakenWasPut}

-- what a seat into which none was joined knows, it did by itself; likewise a pass
abbrev pub own_log : MarkView → MarkLog
own_log v = record { won = v.won; tried = v.known }

abbrev pub own_moves : QueueView → Moves
own_moves d = record { given = d.put; taken = d.taken }

module _ (edge : ℕ × ℕ → ℕ → Option (ℕ × ℕ)) (marking : ℕ × ℕ → Bool) (P : ℕ × ℕ → Type 0) where
  -- it has done nothing yet, and has room for all tries that may come
  pub record IsReady (m : Caller) : Type 0 where
    pub parts : 0 < (view_of m.seat).parts
    pub queue_parts : 0 < (view m.pass).parts
    pub no_won : (view_of m.seat).won ≡ []
    pub no_known : (view_of m.seat).known ≡ []
    pub no_put : (view m.pass).put ≡ []
    pub no_taken : (view m.pass).taken ≡ []
    pub new_logs : (view_of m.seat).logs ≡ new_log ∷ []
    pub no_moves : (view m.pass).moves ≡ new_moves ∷ []
    pub won_empty : won_of m.lists ≡ []
    pub outside_empty : outside_of m.lists ≡ []
    pub listed : All P (tries_of m.lists)
    pub room : HasRoom edge marking P (weigh (λ _. 1) (tries_of m.lists)) (tries_room m.lists)
    pub won_room : batch ≤ vec_capacity m.lists.won

  -- it has made tries, and accounts for all that it began with
  pub record HasRun (m m' : Caller) : Type 0 where
    pub accounts : Accounts edge marking P (tries_of m.lists) [] [] (tries_of m'.lists) (outside_of m'.lists)
        (view_of m'.seat) (view m'.pass)
    pub logs_are : (view_of m'.seat).logs ≡ own_log (view_of m'.seat) ∷ []
    pub moves_are : (view m'.pass).moves ≡ own_moves (view m'.pass) ∷ []
    pub none_left : won_of m'.lists ≡ []
    pub room : AreAsLarge m.lists m'.lists
    pub parts_is : (view_of m'.seat).parts ≡ (view_of m.seat).parts
    pub queue_parts : (view m'.pass).parts ≡ (view m.pass).parts

  -- main's account after both callers have ended, and room for all that may come
  pub record IsOpen (lists : Lists) (v : MarkView) (d : QueueView) : Type 0 where
    pub firsts : List (ℕ × ℕ)
    pub accounts : Accounts edge marking P firsts [] [] (tries_of lists) (outside_of lists) v d
    pub taken_put : TakenWasPut d
    pub none_left : won_of lists ≡ []
    pub most : ℕ
    pub room : HasRoom edge marking P (weigh (λ _. 1) firsts) most
    pub tries_most : most ≤ tries_room lists
    pub won_room : batch ≤ vec_capacity lists.won
    pub outside_most : most < vec_capacity lists.outside

  -- all is tried: each first try and each target of a won cell was tried or lies outside, as often as it came up
  pub record HasSettled (firsts outside : List (ℕ × ℕ)) (v : MarkView) : Type 0 where
    pub settled : (h : ℕ × ℕ → ℕ) → weigh h v.known + weigh h outside ≡ weigh h firsts + weigh (out edge h) v.won
    pub once : (q : ℕ × ℕ) → times q v.won ≤ 1
    pub fresh : All (λ q. bit_of v.first q ≡ 0) v.won
    pub inside : All (λ q. marking q ≡ true) v.won
    pub tried_inside : All (λ q. marking q ≡ true) v.known
    pub beyond : All (λ q. marking q ≡ false) outside
    pub listed : All P v.won
    pub knows : KnowsAll v
