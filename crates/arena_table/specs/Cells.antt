-- What a cell is, and how its fields are kept.
use Rattle.std.specs.Prelude.{ℕ, zero, suc, ◌/◌, ◌%◌, List, Option, Some, None, map, take, slice_get, slice_set}
use Rattle.gz_names.specs.declared.commands.Kind.{Kind}
use Rattle.gz_names.specs.declared.commands.Kind.TheVariants.{Object, Map, Wrapper}
use Rattle.gz_names.specs.declared.names.Name.{Name}
use Rattle.gz_names.specs.declared.names.Name.TheVariants as name
use Rattle.gz_names.specs.declared.numbers.CompNo.{CompNo}
use Rattle.gz_names.specs.declared.numbers.Place.{Place}
use Rattle.arena_table.specs.declared.cells.Link.{Link}
use Rattle.arena_table.specs.declared.cells.Cell.{Cell}
pub use Rattle.arena_table.specs.Kinds.{field_count}

-- a cell: its kind, its compartment, its name, and what its fields hold
pub record CellState : Type 0 where
  pub kind : Kind
  pub comp : CompNo
  pub name : Name
  pub fields : List (Option Place)

-- what a field holds; nothing where there is no such field
abbrev pub joined : Option (Option Place) → Option Place
joined None = None
joined (Some value) = value

abbrev pub field_of : CellState → ℕ → Option Place
field_of cell f = joined (slice_get cell.fields f)

-- a field takes a value
abbrev pub with_value : ℕ → Option Place → CellState → CellState
with_value f value cell = record cell { fields = slice_set cell.fields f value }

-- the place that a number stands for: null is 0, and a cell is one more than its position over all slots
abbrev pub place_at : ℕ → Option Place
place_at zero = None
place_at (suc n) = Some (n / 64, n % 64)

-- what a cell is called: an object or a map by its number, a wrapper by its compartment and its target's number
abbrev pub name_of : Kind → CompNo → ℕ → Name
name_of (Object n) comp number = name.Cell number
name_of Map comp number = name.Cell number
name_of Wrapper comp number = name.Wrap comp number

-- a cell as it is kept
abbrev pub state_of : Cell → CellState
state_of cell = record {
  kind = cell.kind;
  comp = cell.comp;
  name = name_of cell.kind cell.comp cell.number;
  fields = map (λ (link : Link). place_at link.position) (take (field_count cell.kind) cell.fields);
}
