-- A text that is written in pieces.
use Rattle.std.specs.Prelude.{◌≡◌, ℕ, List, ◌++◌, Option}
use Rattle.std.specs.Io.KnownBytes.{Appends}

-- of the text, all but what is held was written
abbrev pub Owes : Option (List ℕ) → Option (List ℕ) → List ℕ → List ℕ → Type 0
Owes old new held text = (sent : List ℕ) × Appends old new sent × (text ≡ sent ++ held)
