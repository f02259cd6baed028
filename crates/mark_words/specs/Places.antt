-- The places that a mask names.
use Rattle.std.specs.Prelude.{ℕ, zero, suc, ◌==◌, List, [], ◌∷◌, ◌++◌, if◌then◌else◌}
use Rattle.std.specs.Int.{bit_at}

-- the place of a slot of an arena, if its bit is set
abbrev pub place_if : ℕ → ℕ → ℕ → List (ℕ × ℕ)
place_if arena slot bit = if bit == 1 then (arena, slot) ∷ [] else []

-- the places of those of the first n slots of an arena that a mask names, ascending
unfoldable pub places_below : ℕ → ℕ → ℕ → List (ℕ × ℕ)
places_below arena mask zero = []
places_below arena mask (suc slot) = places_below arena mask slot ++ place_if arena slot (bit_at mask slot)

-- the places of all slots of an arena that a mask names, ascending
abbrev pub places_of : ℕ → ℕ → List (ℕ × ℕ)
places_of arena mask = places_below arena mask 64
