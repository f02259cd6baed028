-- The arenas of a zone, one after the other.
use Rattle.std.specs.Prelude.{◌≡◌, ◌≢◌, ◌<◌, ◌≤◌, ◌+◌, ◌^◌, ℕ, Some, List, slice_get}
use Rattle.heap_core.specs.Shape.{ArenaShape}

-- the lowest arena of a zone from a number on
pub record IsNextArena (arenas : List ArenaShape) (zone from a : ℕ) : Type 0 where
  pub arena : ArenaShape
  pub at : slice_get arenas a ≡ Some arena
  pub zone_is : arena.zone ≡ zone
  pub from_is : from ≤ a
  pub lowest : (b : ℕ) (other : ArenaShape) → from ≤ b → b < a → slice_get arenas b ≡ Some other → other.zone ≢ zone
  pub few : a + 1 < 2 ^ 32

-- there is none
abbrev pub NoArenaFrom : List ArenaShape → ℕ → ℕ → Type 0
NoArenaFrom arenas zone from =
    (b : ℕ) (other : ArenaShape) → from ≤ b → slice_get arenas b ≡ Some other → other.zone ≢ zone
