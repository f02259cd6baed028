-- Listings of the heap by name: its present cells, the edges of each, and the weak entries.
use Rattle.std.specs.Prelude.{◌≡◌, ◌↔◌, ◌++◌, ◌∷◌, [], ℕ, zero, suc, List, Option, Some, None, Contains, map, slice_get}
use Rattle.gz_names.specs.declared.names.Name.{Name}
use Rattle.gz_names.specs.declared.names.Name.TheVariants.{Cell, Wrap}
use Rattle.gz_names.specs.declared.numbers.Place.{Place}
use Rattle.gz_names.specs.declared.dumps.DumpLine.{DumpLine}
use Rattle.gz_names.specs.declared.dumps.DumpLine.TheVariants as line
use Rattle.weak_maps.specs.WeakMaps.{value_of}
use Rattle.weak_maps.specs.declared.entries.WeakEntry.{WeakEntry}
use Rattle.colour_defs.specs.Ends.{IsAscending}
use Rattle.colour_defs.specs.Dumps.{IsAscendingWeak, WeakLine, field_lines}
use Rattle.arena_table.specs.Cells.{CellState}
use Rattle.heap_core.specs.Shape.{IsPresent, Shape, cell_of, field_at, held_name, name_at}
use Rattle.slice_driver.specs.declared.listings.NamedCell.{NamedCell}
use Rattle.slice_driver.specs.declared.listings.NamedEntry.{NamedEntry}

abbrev pub names_of : List NamedCell → List Name
names_of cells = map (λ (cell : NamedCell). cell.name) cells

-- the present cell at a place, if there is one; and the present cells of an arena below a slot
abbrev pub cell_named : Place → Option Name → List NamedCell
cell_named p None = []
cell_named p (Some x) = record { name = x; place = p } ∷ []

abbrev pub cells_below : Shape → ℕ → ℕ → List NamedCell
cells_below s a zero = []
cells_below s a (suc slot) = cells_below s a slot ++ cell_named (a, slot) (name_at s (a, slot))

-- those of the arenas below a number
abbrev pub cells_up_to : Shape → ℕ → List NamedCell
cells_up_to s zero = []
cells_up_to s (suc a) = cells_up_to s a ++ cells_below s a 64

-- no two places have one name; fields name present cells, and so do the entries of weak maps
abbrev pub AreNamedApart : Shape → Type 0
AreNamedApart s = (p q : Place) (x : Name) → name_at s p ≡ Some x → name_at s q ≡ Some x → p ≡ q

abbrev pub AreFieldsHeld : Shape → Type 0
AreFieldsHeld s = (p q : Place) (f : ℕ) → field_at s p f ≡ Some q → IsPresent s q

abbrev pub AreEntriesHeld : Shape → Type 0
AreEntriesHeld s = (m k v : Place) → value_of s.weak m k ≡ Some v → IsPresent s m × IsPresent s k × IsPresent s v

-- exactly the present cells, ascending by name
pub record ListsCells (s : Shape) (cells : List NamedCell) : Type 0 where
  pub ascending : IsAscending (names_of cells)
  pub exact : (cell : NamedCell) → Contains cells cell ↔ (name_at s cell.place ≡ Some cell.name)

-- the edges of the present cell at a place, in the order of its fields, where it has a number; a wrapper's are none
abbrev pub lines_of_cell : Shape → Option CellState → Option Name → List DumpLine
lines_of_cell s None x = []
lines_of_cell s (Some cell) None = []
lines_of_cell s (Some cell) (Some (Cell n)) = field_lines n (map (held_name s) cell.fields)
lines_of_cell s (Some cell) (Some (Wrap c t)) = []

-- the lines of the fields of a cell below a number
abbrev pub edge_named : ℕ → Option Name → List DumpLine
edge_named n None = []
edge_named n (Some x) = line.Edge n x ∷ []

abbrev pub fields_below : ℕ → (ℕ → Option Name) → ℕ → List DumpLine
fields_below n field zero = []
fields_below n field (suc f) = fields_below n field f ++ edge_named n (field f)

abbrev pub edges_below : Shape → Place → ℕ → ℕ → List DumpLine
edges_below s p n count = fields_below n (λ f. held_name s (field_at s p f)) count

abbrev pub edge_lines_at : Shape → Place → List DumpLine
edge_lines_at s p = lines_of_cell s (cell_of s p) (name_at s p)

-- an entry by names
abbrev pub weak_of : NamedEntry → WeakLine
weak_of e = record { map = e.map; key = e.key; value = e.value }

pub record IsEntryOf (s : Shape) (e : NamedEntry) : Type 0 where
  pub map : Place
  pub key : Place
  pub value : Place
  pub found : value_of s.weak map key ≡ Some value
  pub map_is : name_at s map ≡ Some (Cell e.map)
  pub key_is : name_at s key ≡ Some e.key
  pub value_is : name_at s value ≡ Some e.value

-- an entry by the names of its places, if its map has a number
abbrev pub entry_named : Option Name → Option Name → Option Name → Option NamedEntry
entry_named None key value = None
entry_named (Some (Wrap c t)) key value = None
entry_named (Some (Cell n)) None value = None
entry_named (Some (Cell n)) (Some k) None = None
entry_named (Some (Cell n)) (Some k) (Some v) = Some (record { map = n; key = k; value = v })

abbrev pub entry_in : Shape → Option WeakEntry → Option NamedEntry
entry_in s None = None
entry_in s (Some e) = entry_named (name_at s e.map) (name_at s e.key) (name_at s e.value)

abbrev pub entry_at : Shape → ℕ → Option NamedEntry
entry_at s index = entry_in s (slice_get s.weak.entries index)

abbrev pub listed_entry : Option NamedEntry → List NamedEntry
listed_entry None = []
listed_entry (Some e) = e ∷ []

-- the entries below an index
abbrev pub entries_below : Shape → ℕ → List NamedEntry
entries_below s zero = []
entries_below s (suc index) = entries_below s index ++ listed_entry (entry_at s index)

-- exactly the weak entries whose maps have numbers, by map and then by key
pub record ListsEntries (s : Shape) (entries : List NamedEntry) : Type 0 where
  pub ascending : IsAscendingWeak (map weak_of entries)
  pub exact : (e : NamedEntry) → Contains entries e ↔ IsEntryOf s e
