-- How often a cell may still be scanned: at most once in black, and at most once in gray.
use Rattle.std.specs.Prelude.{◌+◌, ◌≤◌, ℕ, count_by}
use Rattle.gz_names.specs.declared.numbers.Place.{Place}
use Rattle.cell_bits.specs.declared.bits.Colour.{Colour}
use Rattle.cell_bits.specs.declared.bits.Colour.TheVariants as colour
use Rattle.arena_table.specs.Table.{is_place}
use Rattle.mark_stack.specs.Stack.{Piles}
use Rattle.heap_core.specs.Heap.{HeapState, colour_of}

-- how often a cell of this colour may still turn black
abbrev pub black_turns : Colour → ℕ
black_turns colour.White = 1
black_turns colour.Gray = 1
black_turns colour.Black = 0

-- how often a cell of this colour may still turn gray
abbrev pub gray_turns : Colour → ℕ
gray_turns colour.White = 1
gray_turns colour.Gray = 0
gray_turns colour.Black = 0

-- how often a cell may still be taken from the black pile
abbrev pub black_scans : HeapState → Piles → Place → ℕ
black_scans h p x = black_turns (colour_of h x) + count_by (is_place x) p.black

-- how often a cell may still be taken from the gray pile
abbrev pub gray_scans : HeapState → Piles → Place → ℕ
gray_scans h p x = gray_turns (colour_of h x) + count_by (is_place x) p.gray

-- each cell may be scanned once at most in either colour
pub record AreScannedOnce (h : HeapState) (p : Piles) : Type 0 where
  pub black : (x : Place) → black_scans h p x ≤ 1
  pub gray : (x : Place) → gray_scans h p x ≤ 1

-- no cell may be scanned more often than before, in either colour
pub record ScansNoMore (h : HeapState) (p : Piles) (k : HeapState) (q : Piles) : Type 0 where
  pub black : (x : Place) → black_scans k q x ≤ black_scans h p x
  pub gray : (x : Place) → gray_scans k q x ≤ gray_scans h p x
