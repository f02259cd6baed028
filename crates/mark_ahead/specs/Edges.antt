-- Edges of cells, as lists.
use Rattle.std.specs.Prelude.{◌≡◌, ℕ, zero, suc, ◌<◌, List, [], ◌∷◌, ◌++◌, Option, Some, None}
use Rattle.mark_words.specs.Sums.{weigh}

-- what a field holds, as a list
abbrev pub held : Option (ℕ × ℕ) → List (ℕ × ℕ)
held None = []
held (Some q) = q ∷ []

-- what the first n fields of a cell hold
abbrev pub first_targets : (ℕ → Option (ℕ × ℕ)) → ℕ → List (ℕ × ℕ)
first_targets field zero = []
first_targets field (suc n) = first_targets field n ++ held (field n)

module _ (edge : ℕ × ℕ → ℕ → Option (ℕ × ℕ)) where
  -- where the edges of a cell lead
  abbrev pub targets : ℕ × ℕ → List (ℕ × ℕ)
  targets p = first_targets (edge p) 8

  -- the weights of a cell's targets, and how many it has
  abbrev pub out : (ℕ × ℕ → ℕ) → ℕ × ℕ → ℕ
  out h p = weigh h (targets p)

  abbrev pub degree : ℕ × ℕ → ℕ
  degree p = out (λ _. 1) p

  -- an edge of the first cell leads to the second
  abbrev pub Leads : ℕ × ℕ → ℕ × ℕ → Type 0
  Leads p q = (i : ℕ) × (i < 8) × (edge p i ≡ Some q)
