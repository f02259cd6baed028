-- How many cells are present.
use Rattle.std.specs.Prelude.{ℕ, ◌*◌, ◌+◌, is_some, List, sum_by}
use Rattle.barriers.specs.Colours.{slots_below}
use Rattle.heap_core.specs.Shape.{ArenaShape, present_in}

-- how many of an arena's slots have a present cell
abbrev pub present_in_arena : ArenaShape → ℕ
present_in_arena arena = slots_below (λ slot. is_some (present_in arena.out arena.slots slot)) 64

-- how many present cells there are in all arenas
abbrev pub present_in_all : List ArenaShape → ℕ
present_in_all arenas = sum_by present_in_arena arenas

-- the bytes of an arena: 64 cells of 40 bytes, their marks and their zone
abbrev pub arena_bytes : ℕ
arena_bytes = 64 * 40 + 32
