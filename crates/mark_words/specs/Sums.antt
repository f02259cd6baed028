-- Weights of places, added up.
use Rattle.std.specs.Prelude.{ℕ, ◌+◌, ◌==◌, ◌&&◌, Bool, true, false, List, [], ◌∷◌}

abbrev pub weight : Bool → ℕ
weight true = 1
weight false = 0

-- the weights of the places of a list, added up
abbrev pub weigh : (ℕ × ℕ → ℕ) → List (ℕ × ℕ) → ℕ
weigh h [] = 0
weigh h (p ∷ ps) = h p + weigh h ps

-- 1 for this place, 0 for the others
abbrev pub only : ℕ × ℕ → ℕ × ℕ → ℕ
only p q = weight ((q.0 == p.0) && (q.1 == p.1))

-- how often a place stands in a list
abbrev pub times : ℕ × ℕ → List (ℕ × ℕ) → ℕ
times p ps = weigh (only p) ps

-- a number of each view, added up
abbrev pub total : {V : Type 0} → (V → ℕ) → List V → ℕ
total f [] = 0
total f (v ∷ vs) = f v + total f vs

-- the parts of the right to know the whole
abbrev pub whole : ℕ
whole = 1024
