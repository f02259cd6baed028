-- Arenas as they are kept: a head each, and the cells of all in one list.
use Rattle.std.specs.Prelude.{◌≡◌, ◌<◌, ◌≤◌, ℕ, ◌*◌, ◌/◌, ◌%◌, ◌==◌, List, [], ◌∷◌, Option, Some, None, length, All}
use Rattle.std.specs.Prelude.{take, drop, if◌then◌else◌}
use Rattle.arena_table.specs.Cells.{CellState, state_of}
use Rattle.arena_table.specs.Slots.{Arena, alloc_word_of, no_zone}
use Rattle.arena_table.specs.declared.cells.Cell.{Cell}
use Rattle.arena_table.specs.declared.store.Head.{Head}

-- the slots of an arena's cells, where a bit of the word says that a cell stands there
abbrev pub slots_of : ℕ → List Cell → List (Option CellState)
slots_of word [] = []
slots_of word (cell ∷ cells) = (if word % 2 == 1 then Some (state_of cell) else None) ∷ slots_of (word / 2) cells

-- an arena by its head and its cells
abbrev pub arena_of : Head → List Cell → Arena
arena_of head cells = record {
  zone = if head.is_given_up then no_zone else head.zone;
  is_out = head.is_out;
  bits = head.bits;
  slots = slots_of head.alloc_word cells;
}

-- all arenas, where the cells of the first come first
abbrev pub arenas_of : List Head → List Cell → List Arena
arenas_of [] cells = []
arenas_of (head ∷ heads) cells = arena_of head (take 64 cells) ∷ arenas_of heads (drop 64 cells)

-- what always holds
pub record AreStored (heads : List Head) (cells : List Cell) : Type 0 where
  pub whole : length cells ≡ 64 * length heads
  pub words : All (λ (head : Head). head.alloc_word < 18446744073709551616) heads
  pub few : length heads ≤ 67108863

-- the arenas that are kept, and how many more there is room for
pub record StoreState : Type 0 where
  pub arenas : List Arena
  pub room : ℕ

-- what a head says of its arena
pub record IsHeadOf (arena : Arena) (head : Head) : Type 0 where
  pub zone : arena.zone ≡ (if head.is_given_up then no_zone else head.zone)
  pub is_out : arena.is_out ≡ head.is_out
  pub bits : arena.bits ≡ head.bits
  pub alloc_word : alloc_word_of arena.slots ≡ head.alloc_word
  pub whole : length arena.slots ≡ 64
