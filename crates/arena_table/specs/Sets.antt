-- Sets of arenas as lists of words, a bit an arena.
use Rattle.std.specs.Prelude.{◌≡◌, ◌+◌, ◌/◌, ◌%◌, ◌*◌, ◌<◌, ◌≤◌, ◌^◌, ◌↔◌, ◌≢◌, ⊤, ℕ, List, Option, Some, None, length}
use Rattle.std.specs.Prelude.{slice_index}
use Rattle.std.specs.Int.{bit_at}

-- the bit of an arena
abbrev pub arena_bit : List ℕ → ℕ → ℕ
arena_bit words arena = bit_at (slice_index words (arena / 64)) (arena % 64)

-- a second list of words has a bit for each word of the first, which is set where that word is not 0
pub record IsSummed (words groups : List ℕ) : Type 0 where
  pub few : length words ≤ 2 ^ 26
  pub room : length words ≤ 64 * length groups
  pub tight : 64 * length groups ≤ length words + 64
  pub summed : (w : ℕ) → (arena_bit groups w ≡ 1) ↔ (slice_index words w ≢ 0)

-- a number comes before the one that a search found; all do where it found none
abbrev pub IsBefore : Option ℕ → ℕ → Type 0
IsBefore None n = ⊤
IsBefore (Some found) n = n < found
