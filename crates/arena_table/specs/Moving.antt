-- Cells that move to other slots of their zone, and arenas that are given up.
use Rattle.std.specs.Prelude.{◌≡◌, ◌<◌, ◌≤◌, ◌+◌, ◌==◌, ◌&&◌, ℕ, suc, false, List, [], ◌∷◌, Option, Some, None}
use Rattle.std.specs.Prelude.{All, Contains, IsSome, length, map, nat_le, nat_lt, slice_get, if◌then◌else◌}
use Rattle.std.specs.Option.{option_map}
use Rattle.std.specs.Int.{bit_at}
use Rattle.gz_names.specs.Moves.{GoApart, IsGoal, IsLeft, moved}
use Rattle.gz_names.specs.declared.moves.Move.{Move}
use Rattle.gz_names.specs.declared.numbers.Place.{Place}
use Rattle.arena_table.specs.Cells.{CellState}
use Rattle.arena_table.specs.Slots.{Arena, cell_at, change_at, change_cell, given_up, held_in, is_out_at, no_zone}

-- the zone that owns an arena: none owns one that was not made, or was given up
abbrev pub owner_of : Option Arena → Option ℕ
owner_of None = None
owner_of (Some arena) = if nat_lt arena.zone no_zone then Some arena.zone else None

-- whether a slot has a black bit, and a bit for gray or black
abbrev pub black_bit : Option Arena → ℕ → ℕ
black_bit None slot = 0
black_bit (Some arena) slot = bit_at arena.bits.black slot

abbrev pub gob_bit : Option Arena → ℕ → ℕ
gob_bit None slot = 0
gob_bit (Some arena) slot = bit_at arena.bits.gob slot

-- a place has these mark bits in the one table of arenas as another place has in another table
pub record AreBitsOf (old : List Arena) (p : Place) (new : List Arena) (q : Place) : Type 0 where
  pub black : black_bit (slice_get new q.0) q.1 ≡ black_bit (slice_get old p.0) p.1
  pub gob : gob_bit (slice_get new q.0) q.1 ≡ gob_bit (slice_get old p.0) p.1

-- a place has no mark bits
pub record AreClearBits (arenas : List Arena) (p : Place) : Type 0 where
  pub black : black_bit (slice_get arenas p.0) p.1 ≡ 0
  pub gob : gob_bit (slice_get arenas p.0) p.1 ≡ 0

-- what moves ask: each takes a cell to a slot of an arena of its zone, neither arena is handed to sweeping, and each
-- slot is free and gets one cell
pub record MayMove (arenas : List Arena) (moves : List Move) : Type 0 where
  pub cells : (m : Move) → Contains moves m → IsSome (cell_at arenas m.from)
  pub zones : (m : Move) → Contains moves m → owner_of (slice_get arenas m.to.0) ≡ owner_of (slice_get arenas m.from.0)
  pub made : (m : Move) → Contains moves m → m.to.0 < length arenas
  pub kept : (m : Move) → Contains moves m → (is_out_at arenas m.from.0 ≡ false) × (is_out_at arenas m.to.0 ≡ false)
  pub apart : GoApart (λ p. IsSome (cell_at arenas p)) moves

-- the cells went where moves take them, with their mark bits; the slots that they left are free, with clear bits; and
-- all else is as it was. What leads to the cells still leads to the slots that they left
pub record MovesCells (old : List Arena) (moves : List Move) (new : List Arena) : Type 0 where
  pub sized : length new ≡ length old
  pub zones : (a : ℕ) → option_map (λ (arena : Arena). arena.zone) (slice_get new a)
      ≡ option_map (λ (arena : Arena). arena.zone) (slice_get old a)
  pub outs : (a : ℕ) → is_out_at new a ≡ is_out_at old a
  pub whole : (a : ℕ) → option_map (λ (arena : Arena). length arena.slots) (slice_get new a)
      ≡ option_map (λ (arena : Arena). length arena.slots) (slice_get old a)
  pub gone : (m : Move) → Contains moves m → cell_at new m.to ≡ cell_at old m.from
  pub left : (p : Place) → IsLeft moves p → cell_at new p ≡ None
  pub others : (p : Place) → (IsLeft moves p → ⊥) → (IsGoal moves p → ⊥) → cell_at new p ≡ cell_at old p
  pub bits : (m : Move) → Contains moves m → AreBitsOf old m.from new m.to
  pub left_bits : (p : Place) → IsLeft moves p → AreClearBits new p
  pub other_bits : (p : Place) → (IsLeft moves p → ⊥) → (IsGoal moves p → ⊥) → AreBitsOf old p new p

-- a cell whose fields lead to where their cells have gone
abbrev pub forwarded : List Move → CellState → CellState
forwarded moves cell = record cell { fields = map (option_map (moved moves)) cell.fields }

-- an arena with such cells, and one with such a cell at a slot
abbrev pub all_forwarded : List Move → Arena → Arena
all_forwarded moves arena = record arena { slots = map (option_map (forwarded moves)) arena.slots }

abbrev pub forwarded_at : List Move → ℕ → Arena → Arena
forwarded_at moves slot arena = record arena { slots = change_at (change_cell (forwarded moves)) arena.slots slot }

-- the arenas of a zone are changed
abbrev pub in_zone : (Arena → Arena) → ℕ → List Arena → List Arena
in_zone f zone arenas = map (λ (arena : Arena). if arena.zone == zone then f arena else arena) arenas

-- each goal of moves lies in an arena that was made
abbrev pub GoInside : List Arena → List Move → Type 0
GoInside arenas moves = All (λ m. m.to.0 < length arenas) moves

-- the arenas of a zone from a number on are handed to nobody, and no cell stands in them
abbrev pub AreEmptyFrom : List Arena → ℕ → ℕ → Type 0
AreEmptyFrom arenas zone first = (a : ℕ) (arena : Arena) → first ≤ a → slice_get arenas a ≡ Some arena
    → arena.zone ≡ zone → (held_in arena.slots ≡ 0) × (arena.is_out ≡ false)

-- they are given up: no zone owns them. The first arena of the list has the number n
abbrev pub given_up_from : ℕ → ℕ → ℕ → List Arena → List Arena
given_up_from zone first n [] = []
given_up_from zone first n (arena ∷ arenas) =
    (if nat_le first n && (arena.zone == zone) then given_up arena else arena)
    ∷ given_up_from zone first (suc n) arenas

-- how many there are
abbrev pub count_from : ℕ → ℕ → ℕ → List Arena → ℕ
count_from zone first n [] = 0
count_from zone first n (arena ∷ arenas) =
    (if nat_le first n && (arena.zone == zone) then 1 else 0) + count_from zone first (suc n) arenas
