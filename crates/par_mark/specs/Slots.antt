-- Tries of one arena as a mask of its slots.
use Rattle.std.specs.Prelude.{◌≡◌, ℕ, ◌+◌, ◌<◌, ◌≤◌, List, [], ◌∷◌, ◌++◌, length}
use Rattle.std.specs.Int.{bit_at}
use Rattle.mark_words.specs.Sums.{weigh}
use Rattle.mark_words.specs.Places.{places_of}

-- the newest try was taken off the list: it names a slot that is not among these
pub record IsGathered (arena slots slot : ℕ) (tries tries' : List (ℕ × ℕ)) : Type 0 where
  pub tries_is : tries ≡ tries' ++ (arena, slot) ∷ []
  pub below : slot < 64
  pub further : bit_at slots slot ≡ 0

-- the slots are those of this try and of others, at most this number together, that were taken off the list
pub record AreGathered (first : ℕ × ℕ) (most : ℕ) (tries tries' : List (ℕ × ℕ)) (slots : ℕ) : Type 0 where
  -- each place as often
  pub same : (h : ℕ × ℕ → ℕ) → weigh h (places_of first.0 slots) + weigh h tries' ≡ h first + weigh h tries
  pub first_in : (h : ℕ × ℕ → ℕ) → h first ≤ weigh h (places_of first.0 slots)
  pub few : length (places_of first.0 slots) ≤ most
