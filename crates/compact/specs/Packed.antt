-- Moves that pack a part of a zone's cells.
use Rattle.std.specs.Prelude.{◌≡◌, ◌↔◌, ◌<◌, ◌≤◌, ◌≢◌, ◌+◌, ℕ, List, [], AllPairs, Contains, length, take}
use Rattle.gz_names.specs.Moves.{IsBefore, IsGoal, IsLeft}
use Rattle.gz_names.specs.declared.moves.Move.{Move}
use Rattle.gz_names.specs.declared.numbers.Place.{Place}
use Rattle.heap_core.specs.Shape.{ArenaShape, IsPresent, Shape, zone_of}
use Rattle.compact.specs.Holes.{IsAhead, IsAt, IsCounted, IsFree}
use Rattle.compact.specs.Packing.{GoLowest, free_below, held_of_zone}
use Rattle.compact.specs.declared.packing.Packing.{Packing}

-- a cell of a zone that moves: it is in an arena from a number on
pub record IsMover (s : Shape) (zone first : ℕ) (p : Place) : Type 0 where
  pub present : IsPresent s p
  pub zone_is : zone_of s p ≡ zone
  pub from : first ≤ p.0

-- the cells before a place that move have moves, to the lowest free slots
pub record IsPacked (s : Shape) (zone : ℕ) (q : Place) (k : Packing) : Type 0 where
  pub from : (m : Move) → Contains k.moves m → IsMover s zone k.first_given_up m.from × IsBefore m.from q
  pub all : (p : Place) → IsMover s zone k.first_given_up p → IsBefore p q → IsLeft k.moves p
  pub goals : (m : Move) → Contains k.moves m → IsFree s zone m.to × (m.to.0 < k.first_given_up)
  pub apart : AllPairs (λ m n. m.to ≢ n.to) k.moves
  pub lowest : GoLowest s zone k.first_given_up [] k.moves
  pub zone_is : k.holes.zone ≡ zone
  pub at : IsAt s k.holes
  pub ahead : (p : Place) → IsFree s zone p → IsAhead k.holes p ↔ (IsGoal k.moves p → ⊥)
  pub counted : IsCounted s k.holes k.first_given_up (length k.moves)

-- the cells in the arenas before one that move, as many as there are moves
abbrev pub AreCounted : Shape → ℕ → ℕ → Packing → Type 0
AreCounted s zone a k = held_of_zone zone (take k.first_given_up s.arenas) + length k.moves
    ≡ held_of_zone zone (take a s.arenas)

-- the arenas below a number have a free slot for each cell of the others
abbrev pub HasRoom : List ArenaShape → ℕ → ℕ → Type 0
HasRoom arenas zone first =
    held_of_zone zone arenas ≤ free_below zone first 0 arenas + held_of_zone zone (take first arenas)
