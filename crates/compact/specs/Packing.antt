-- The cells of a zone are packed into its lowest arenas.
use Rattle.std.specs.Prelude.{◌≡◌, ◌⊎◌, ◌<◌, ◌≤◌, ◌+◌, ◌-◌, ◌==◌, ◌&&◌, ℕ, suc, None, List, [], ◌∷◌, length, nat_lt, ⊤}
use Rattle.std.specs.Prelude.{if◌then◌else◌}
use Rattle.gz_names.specs.Moves.{AreInOrder, IsBefore, IsGoal}
use Rattle.gz_names.specs.declared.moves.Move.{Move}
use Rattle.gz_names.specs.declared.numbers.Place.{Place}
use Rattle.arena_table.specs.Slots.{held_in}
use Rattle.colour_defs.specs.Compaction.{FillArenas}
use Rattle.heap_core.specs.Heap.{HeapState}
use Rattle.heap_core.specs.Moving.{AreMoves, Relocates, count_from}
use Rattle.heap_core.specs.Shape.{ArenaShape, Shape, cell_of, zone_of}
use Rattle.compact.specs.declared.Compacted.{Compacted}

-- how many cells stand in the arenas of a zone
abbrev pub held_of_zone : ℕ → List ArenaShape → ℕ
held_of_zone zone [] = 0
held_of_zone zone (arena ∷ arenas) =
    (if arena.zone == zone then held_in arena.slots else 0) + held_of_zone zone arenas

-- how many arenas of a zone have numbers below this one, where the first of the list has the number n
abbrev pub count_below : ℕ → ℕ → ℕ → List ArenaShape → ℕ
count_below zone first n [] = 0
count_below zone first n (arena ∷ arenas) =
    (if nat_lt n first && (arena.zone == zone) then 1 else 0) + count_below zone first (suc n) arenas

-- how many free slots these arenas have
abbrev pub free_below : ℕ → ℕ → ℕ → List ArenaShape → ℕ
free_below zone first n [] = 0
free_below zone first n (arena ∷ arenas) =
    (if nat_lt n first && (arena.zone == zone) then 64 - held_in arena.slots else 0)
    + free_below zone first (suc n) arenas

-- below this number lie this many arenas of a zone, or all of them if they are fewer; and it is that of an arena, or
-- the number after all arenas
pub record IsArenaAfter (arenas : List ArenaShape) (zone count first : ℕ) : Type 0 where
  pub most : count_below zone first 0 arenas ≤ count
  pub all : count_below zone first 0 arenas < count → first ≡ length arenas
  pub within : first ≤ length arenas

-- a free slot of an arena of the zone below a number, to which none of these moves goes
pub record IsHole (s : Shape) (zone first : ℕ) (used : List Move) (p : Place) : Type 0 where
  pub made : p.0 < length s.arenas
  pub zone_is : zone_of s p ≡ zone
  pub below : p.0 < first
  pub slot : p.1 < 64
  pub free : cell_of s p ≡ None
  pub unused : IsGoal used p → ⊥

-- each move goes to the lowest slot that is free when its turn comes
abbrev pub GoLowest : Shape → ℕ → ℕ → List Move → List Move → Type 0
GoLowest s zone first used [] = ⊤
GoLowest s zone first used (m ∷ moves) = IsHole s zone first used m.to
    × ((p : Place) → IsHole s zone first used p → (p ≡ m.to) ⊎ IsBefore m.to p)
    × GoLowest s zone first (m ∷ used) moves

-- the moves that pack a zone: its arenas below a number are as many as its cells fill, and the cells of the others go,
-- in the order of their places, to the lowest free slots of these
pub record Packs (s : Shape) (zone first : ℕ) (moves : List Move) : Type 0 where
  pub few : FillArenas (held_of_zone zone s.arenas) (count_below zone first 0 s.arenas)
  pub moves_are : AreMoves s zone first moves
  pub in_order : AreInOrder moves
  pub lowest : GoLowest s zone first [] moves

-- a zone was packed: this many cells moved, and this many arenas were given up
pub record IsCompacted (old : HeapState) (zone : ℕ) (done : Compacted) (new : HeapState) : Type 0 where
  pub first : ℕ
  pub moves : List Move
  pub packs : Packs old.shape zone first moves
  pub moved_is : done.moved ≡ length moves
  pub given_up_is : done.given_up ≡ count_from zone first 0 old.shape.arenas
  pub relocates : Relocates old zone first moves new
