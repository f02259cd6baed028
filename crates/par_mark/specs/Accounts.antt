-- The conservation law of one caller.
use Rattle.std.specs.Prelude.{◌≡◌, ℕ, ◌+◌, ◌≤◌, Bool, true, false, List, Option, All}
use Rattle.mark_words.specs.declared.view.MarkView.{MarkView}
use Rattle.mark_words.specs.Sums.{weigh, times}
use Rattle.mark_words.specs.Rule.{bit_of}
use Rattle.par_mark.specs.declared.donations.QueueView.{QueueView}
use Rattle.mark_ahead.specs.Edges.{out, degree}

module _ (edge : ℕ × ℕ → ℕ → Option (ℕ × ℕ)) (marking : ℕ × ℕ → Bool) (P : ℕ × ℕ → Type 0) where
  -- the tries that a caller began with, the targets of the cells that it won and the tries that it took from the
  -- queue are, each as often, in its hand, in its list, targets of cells that it won and has not scanned yet, given
  -- away, made, or found outside the marking zones
  pub record Accounts (firsts held unscanned tries outside : List (ℕ × ℕ)) (v : MarkView) (d : QueueView)
      : Type 0 where
    pub balance : (h : ℕ × ℕ → ℕ) → weigh h held + (weigh h tries + (weigh (out edge h) unscanned
        + (weigh h d.put + (weigh h v.known + weigh h outside))))
        ≡ weigh h firsts + (weigh (out edge h) v.won + weigh h d.taken)
    -- what it took is in its hand, or was tried, or was found outside
    pub taken : (h : ℕ × ℕ → ℕ) → weigh h d.taken ≤ weigh h held + (weigh h v.known + weigh h outside)
    pub unscanned_won : (h : ℕ × ℕ → ℕ) → weigh h unscanned ≤ weigh h v.won
    pub won_known : (h : ℕ × ℕ → ℕ) → weigh h v.won ≤ weigh h v.known
    -- the cells that it won differ, were white at first, and are in marking zones
    pub once : (p : ℕ × ℕ) → times p v.won ≤ 1
    pub fresh : All (λ p. bit_of v.first p ≡ 0) v.won
    pub inside : All (λ p. marking p ≡ true) v.won
    pub tried_inside : All (λ p. marking p ≡ true) v.known
    pub beyond : All (λ p. marking p ≡ false) outside
    pub listed : All P held
    pub tries_listed : All P tries
    pub won_listed : All P v.won

  -- room for the tries that a caller began with and for all edges of different listed cells
  abbrev pub HasRoom : ℕ → ℕ → Type 0
  HasRoom firsts room = (ps : List (ℕ × ℕ)) → ((p : ℕ × ℕ) → times p ps ≤ 1) → All P ps
      → firsts + weigh (degree edge) ps ≤ room
