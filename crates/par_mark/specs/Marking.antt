-- What marking has to make black, and what it leaves.
use Rattle.std.specs.Prelude.{◌≡◌, ℕ, ◌+◌, ◌≤◌, ◌⊎◌, ◌↔◌, Bool, true, false, List, Option, All, Contains}
use Rattle.mark_words.specs.declared.view.MarkView.{MarkView}
use Rattle.mark_words.specs.Sums.{only, weigh, times}
use Rattle.mark_words.specs.Rule.{bit_of}
use Rattle.mark_ahead.specs.Edges.{Leads, out}
use Rattle.mark_ahead.specs.Blackening.{Reached}

module _ (edge : ℕ × ℕ → ℕ → Option (ℕ × ℕ)) (marking : ℕ × ℕ → Bool) (first : List ℕ) (from : List (ℕ × ℕ)) where
  -- the targets of the given cells, and of the reached cells that were white: what may be tried
  abbrev pub Sought : ℕ × ℕ → Type 0
  Sought q = (p : ℕ × ℕ) × (Contains from p ⊎ (Reached edge marking first from p × (bit_of first p ≡ 0)))
      × Leads edge p q

  pub record HasMarked (outside : List (ℕ × ℕ)) (v : MarkView) : Type 0 where
    -- the cells that were won differ, were white at first, and are in marking zones
    pub once : (q : ℕ × ℕ) → times q v.won ≤ 1
    pub fresh : All (λ q. bit_of first q ≡ 0) v.won
    pub inside : All (λ q. marking q ≡ true) v.won
    -- the black cells are those of before and all that are reached
    pub black : (q : ℕ × ℕ) → (bit_of first q + times q v.won ≡ 1)
        ↔ ((bit_of first q ≡ 1) ⊎ Reached edge marking first from q)
    -- each given cell and each cell that was won was scanned once: each of its targets was tried or lies outside, as
    -- often as it is a target
    pub scanned : (h : ℕ × ℕ → ℕ) → weigh h v.known + weigh h outside
        ≡ weigh (out edge h) from + weigh (out edge h) v.won
    -- outside are the targets that lie outside the marking zones, of the given cells and of those that were won,
    pub outside_is : (q : ℕ × ℕ) → Contains outside q
        ↔ ((marking q ≡ false) × ((p : ℕ × ℕ) × (Contains from p ⊎ Contains v.won p) × Leads edge p q))
    -- and as often as they are targets
    pub outside_times : (q : ℕ × ℕ) → marking q ≡ false
        → times q outside ≡ weigh (out edge (only q)) from + weigh (out edge (only q)) v.won
