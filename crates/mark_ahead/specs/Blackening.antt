-- What edges reach through white cells of marking zones turns black.
use Rattle.std.specs.Prelude.{◌≡◌, ℕ, ◌+◌, ◌<◌, ◌⊎◌, ◌↔◌, Bool, true, false, List, length, Option, All, Contains}
use Rattle.mark_words.specs.Sums.{only, weigh, times}
use Rattle.mark_words.specs.Rule.{bit_of}
use Rattle.mark_ahead.specs.Edges.{Leads, out}

module _ (edge : ℕ × ℕ → ℕ → Option (ℕ × ℕ)) (marking : ℕ × ℕ → Bool) (first : List ℕ) (from : List (ℕ × ℕ)) where
  -- the cells of marking zones that edges reach from the given cells, through cells of marking zones that were white
  pub data Reached : ℕ × ℕ → Type 0 where
    near : {p q : ℕ × ℕ} → Contains from p → Leads edge p q → marking q ≡ true → Reached q
    far : {p q : ℕ × ℕ} → Reached p → bit_of first p ≡ 0 → Leads edge p q → marking q ≡ true → Reached q

  -- the words after marking
  pub record HasBlackened (last : List ℕ) (won outside : List (ℕ × ℕ)) : Type 0 where
    pub sized : length last ≡ length first
    -- the black cells are those of before and all that are reached
    pub black : (q : ℕ × ℕ) → q.0 < length first → (bit_of last q ≡ 1) ↔ ((bit_of first q ≡ 1) ⊎ Reached q)
    -- those that turned black, each once, and each of them is reached
    pub turned : (q : ℕ × ℕ) → q.0 < length first → bit_of last q ≡ bit_of first q + times q won
    pub reached : (q : ℕ × ℕ) → Contains won q → Reached q
    pub inside : All (λ q. marking q ≡ true) won
    -- outside are the targets that lie outside the marking zones, of the given cells and of those that turned black,
    pub outside_is : (q : ℕ × ℕ) → Contains outside q
        ↔ ((marking q ≡ false) × ((p : ℕ × ℕ) × (Contains from p ⊎ Contains won p) × Leads edge p q))
    -- and as often as they are targets
    pub outside_times : (q : ℕ × ℕ) → marking q ≡ false
        → times q outside ≡ weigh (out edge (only q)) from + weigh (out edge (only q)) won

  -- the words after marking, and what it found: the cells that turned black, if these are to be listed, and the targets
  -- outside the marking zones
  pub record HasFound (is_listed : Type 0) (last : List ℕ) (listed outside : List (ℕ × ℕ)) : Type 0 where
    pub won : List (ℕ × ℕ)
    pub blackened : HasBlackened last won outside
    pub listed_won : is_listed → listed ≡ won
