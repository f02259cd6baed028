-- The cells that turned black, read from the black words before and after.
use Rattle.std.specs.Prelude.{ℕ, zero, suc, ◌<◌, ◌^◌, List, [], ◌++◌, slice_index, bit_and}
use Rattle.std.specs.Int.{bit_not, w64}
use Rattle.mark_words.specs.Places.{places_of}

-- the slots of an arena whose bit is set after and was not set before
abbrev pub turned_slots : List ℕ → List ℕ → ℕ → ℕ
turned_slots before after arena = bit_and (slice_index after arena) (bit_not w64 (slice_index before arena))

-- their places, of the first n arenas, ascending
abbrev pub turned_places : List ℕ → List ℕ → ℕ → List (ℕ × ℕ)
turned_places before after zero = []
turned_places before after (suc n) = turned_places before after n ++ places_of n (turned_slots before after n)

-- the first n of these are words of 64 bits
abbrev pub AreWords : List ℕ → ℕ → Type 0
AreWords words n = (arena : ℕ) → arena < n → slice_index words arena < 2 ^ 64
