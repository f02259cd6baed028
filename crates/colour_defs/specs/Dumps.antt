-- The dump of a world: its present cells with their colours, their edges and their weak entries.
use Rattle.std.specs.Prelude.{◌≡◌, ◌↔◌, ℕ, List, [], ◌∷◌, ◌++◌, map, Option, Some, None, Contains, if◌then◌else◌}
use Rattle.std.specs.Prelude.{IsTrue}
use Rattle.std.specs.List.{flat_map, AllByRecursion}
use Rattle.std.specs.FinSet as set
use Rattle.std.specs.Ordering.{is_lt, ordering_then}
use Rattle.gz_names.specs.declared.names.Name.{Name}
use Rattle.gz_names.specs.declared.names.Name.TheVariants.{Cell, Wrap}
use Rattle.gz_names.specs.declared.dumps.DumpLine.{DumpLine}
use Rattle.gz_names.specs.declared.dumps.DumpLine.TheVariants as line
use Rattle.gz_names.specs.declared.dumps.DumpColour.{DumpColour}
use Rattle.gz_names.specs.declared.dumps.DumpColour.TheVariants.{Black, Gray}
use Rattle.gz_names.specs.Order.{name_cmp}
use Rattle.colour_defs.specs.declared.graph.Object.{Object}
use Rattle.colour_defs.specs.Graph.{GraphState, object_of, value_of}
use Rattle.colour_defs.specs.World.{World, IsPresent}
use Rattle.colour_defs.specs.Ends.{Lists}

-- the colour of a present name where no zone is marking
abbrev pub colour_in : World → Name → DumpColour
colour_in w x = if set.contains w.black x then Black else Gray

abbrev pub cell_line : World → Name → DumpLine
cell_line w x = line.Cell x (colour_in w x)

-- the edges of an object with this number, in the order of its fields; null ones are left out
abbrev pub field_lines : ℕ → List (Option Name) → List DumpLine
field_lines n [] = []
field_lines n (None ∷ fields) = field_lines n fields
field_lines n (Some x ∷ fields) = line.Edge n x ∷ field_lines n fields

abbrev pub object_lines : ℕ → Option Object → List DumpLine
object_lines n None = []
object_lines n (Some o) = field_lines n o.fields

-- the edges of a name: a wrapper's is its name
abbrev pub edge_lines : GraphState → Name → List DumpLine
edge_lines g (Cell n) = object_lines n (object_of g n)
edge_lines g (Wrap c t) = []

-- an entry, by its map's number, its key and its value
pub record WeakLine : Type 0 where
  pub map : ℕ
  pub key : Name
  pub value : Name

abbrev pub weak_line : WeakLine → DumpLine
weak_line e = line.Weak e.map e.key e.value

-- by map, then by key
abbrev pub IsAscendingWeak : List WeakLine → Type 0
IsAscendingWeak [] = Unit {0}
IsAscendingWeak (e ∷ es) =
    AllByRecursion (λ d. IsTrue (is_lt (ordering_then (name_cmp (Cell e.map) (Cell d.map)) (name_cmp e.key d.key)))) es
    × IsAscendingWeak es

-- an entry whose map and key are present
pub record IsWeakOf (w : World) (e : WeakLine) : Type 0 where
  pub found : value_of w.graph (Cell e.map) e.key ≡ Some e.value
  pub map_present : IsPresent w (Cell e.map)
  pub key_present : IsPresent w e.key

-- a dump: the present cells, ascending; their edges, by object and field; the entries, by map and key; the end
pub record IsDump (w : World) (lines : List DumpLine) : Type 0 where
  pub cells : List Name
  pub cells_are : Lists (IsPresent w) cells
  pub weaks : List WeakLine
  pub weaks_ascend : IsAscendingWeak weaks
  pub weaks_are : (e : WeakLine) → Contains weaks e ↔ IsWeakOf w e
  pub lines_are : lines ≡ map (cell_line w) cells
      ++ (flat_map (edge_lines w.graph) cells ++ (map weak_line weaks ++ line.End ∷ []))
