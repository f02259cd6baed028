-- Arenas, and the slots of an arena.
use Rattle.std.specs.Prelude.{◌≡◌, ◌<◌, ℕ, zero, suc, ◌+◌, ◌*◌, ◌/◌, ◌%◌, ◌==◌, ◌&&◌, Bool, true, false, List, [], ◌∷◌}
use Rattle.std.specs.Prelude.{Option, Some, None, slice_get, slice_set, replicate, is_some, option_and_then}
use Rattle.std.specs.Prelude.{if◌then◌else◌}
use Rattle.std.specs.Int.{bit_at}
use Rattle.gz_names.specs.declared.names.Name.{Name}
use Rattle.gz_names.specs.declared.numbers.Place.{Place}
use Rattle.cell_bits.specs.declared.bits.Bits.{Bits}
use Rattle.arena_table.specs.Cells.{CellState, with_value}

-- whether two places are the same
abbrev pub is_place : Place → Place → Bool
is_place p q = (p.0 == q.0) && (p.1 == q.1)

-- the zone of an arena that was given up: none, as zones are below 64
abbrev pub no_zone : ℕ
no_zone = 64

-- an arena: its zone, whether it is handed to sweeping, its mark bits, and its 64 slots with the cells that stand there
pub record Arena : Type 0 where
  pub zone : ℕ
  pub is_out : Bool
  pub bits : Bits
  pub slots : List (Option CellState)

-- one element of a list is changed
abbrev pub change_at : {X : Type 0} → (X → X) → List X → ℕ → List X
change_at f [] i = []
change_at f (x ∷ xs) zero = f x ∷ xs
change_at f (x ∷ xs) (suc i) = x ∷ change_at f xs i

-- the cell of a slot, if there is one
abbrev pub cell_in : List (Option CellState) → ℕ → Option CellState
cell_in slots slot = option_and_then (λ cell. cell) (slice_get slots slot)

-- the cell at a place, if there is one
abbrev pub cell_at : List Arena → Place → Option CellState
cell_at arenas place = option_and_then (λ arena. cell_in arena.slots place.1) (slice_get arenas place.0)

-- an arena of a zone, without cells, all of its bits clear
abbrev pub empty_arena : ℕ → Arena
empty_arena zone = record {
  zone = zone;
  is_out = false;
  bits = record { black = 0; gob = 0 };
  slots = replicate 64 None;
}

-- a cell is put into a slot
abbrev pub with_cell : ℕ → CellState → Arena → Arena
with_cell slot cell arena = record arena { slots = slice_set arena.slots slot (Some cell) }

-- a slot's cell is changed, if there is one
abbrev pub change_cell : (CellState → CellState) → Option CellState → Option CellState
change_cell f None = None
change_cell f (Some cell) = Some (f cell)

-- the slots without the cells of a word
abbrev pub without_freed : ℕ → List (Option CellState) → List (Option CellState)
without_freed word [] = []
without_freed word (slot ∷ slots) = (if word % 2 == 1 then None else slot) ∷ without_freed (word / 2) slots

-- a field of a slot's cell takes a value
abbrev pub with_field : ℕ → ℕ → Option Place → Arena → Arena
with_field slot f value arena = record arena {
  slots = change_at (change_cell (with_value f value)) arena.slots slot;
}

-- an arena takes mark bits
abbrev pub with_bits : Bits → Arena → Arena
with_bits bits arena = record arena { bits = bits }

-- an arena is handed to sweeping, and comes back without the cells of a word
abbrev pub handed_out : Arena → Arena
handed_out arena = record arena { is_out = true }

abbrev pub taken_in : ℕ → Bits → Arena → Arena
taken_in freed bits arena = record arena {
  is_out = false;
  bits = bits;
  slots = without_freed freed arena.slots;
}

-- an arena is given up
abbrev pub given_up : Arena → Arena
given_up arena = record arena { zone = no_zone }

-- the slots with a cell, as a word whose lowest bit is that of the first slot
abbrev pub alloc_word_of : List (Option CellState) → ℕ
alloc_word_of [] = 0
alloc_word_of (slot ∷ slots) = (if is_some slot then 1 else 0) + 2 * alloc_word_of slots

-- the slots of a word are among those of another
abbrev pub IsWithin : ℕ → ℕ → Type 0
IsWithin word all = (slot : ℕ) → slot < 64 → bit_at word slot ≡ 1 → bit_at all slot ≡ 1

-- how many cells there are in slots, and in all arenas
abbrev pub held_in : List (Option CellState) → ℕ
held_in [] = 0
held_in (None ∷ slots) = held_in slots
held_in (Some cell ∷ slots) = suc (held_in slots)

abbrev pub held_by : List Arena → ℕ
held_by [] = 0
held_by (arena ∷ arenas) = held_in arena.slots + held_by arenas

-- the elements of a list at which a word has a bit, whose lowest bit is that of the first
abbrev pub at_bits : {X : Type 0} → ℕ → List X → List X
at_bits word [] = []
at_bits word (x ∷ xs) = if word % 2 == 1 then x ∷ at_bits (word / 2) xs else at_bits (word / 2) xs

-- the names of the cells among slots
abbrev pub names_of : List (Option CellState) → List Name
names_of [] = []
names_of (None ∷ slots) = names_of slots
names_of (Some cell ∷ slots) = cell.name ∷ names_of slots

-- whether a slot is free, and the lowest that is
abbrev pub has_free : List (Option CellState) → Bool
has_free [] = false
has_free (None ∷ slots) = true
has_free (Some cell ∷ slots) = has_free slots

abbrev pub first_free : List (Option CellState) → ℕ
first_free [] = 0
first_free (None ∷ slots) = 0
first_free (Some cell ∷ slots) = suc (first_free slots)

-- a bit that says yes or no
abbrev pub bit_of : Bool → ℕ
bit_of b = if b then 1 else 0

-- whether the arena of a number is handed to sweeping
abbrev pub is_out_at : List Arena → ℕ → Bool
is_out_at [] i = false
is_out_at (arena ∷ arenas) zero = arena.is_out
is_out_at (arena ∷ arenas) (suc i) = is_out_at arenas i
