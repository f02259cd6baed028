-- How many edges a cell has.
use Rattle.std.specs.Prelude.{ℕ, Option, Some, None, length}
use Rattle.gz_names.specs.declared.numbers.Place.{Place}
use Rattle.arena_table.specs.Cells.{CellState}
use Rattle.heap_core.specs.Shape.{Shape, cell_of}

abbrev pub edges_in : Option CellState → ℕ
edges_in None = 0
edges_in (Some cell) = length cell.fields

-- as many as the present cell at a place has fields
abbrev pub edge_count : Shape → Place → ℕ
edge_count s p = edges_in (cell_of s p)
