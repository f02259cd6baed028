-- What is read of the heap while it is listed: its fields' lines and its entries' places.
use Rattle.std.proofs.Common.{◌≡◌, ℕ, Option, Some, slice_get, sym, ap, ◌∙◌}
use Rattle.gz_names.specs.declared.names.Name.{Name}
use Rattle.gz_names.specs.declared.names.Name.TheVariants.{Cell}
use Rattle.gz_names.specs.declared.numbers.Place.{Place}
use Rattle.weak_maps.specs.WeakMaps.{IsSound}
use Rattle.colour_defs.proofs.Lists.{contains_at}
use Rattle.heap_core.specs.Edges.{edge_count}
use Rattle.heap_core.specs.Shape.{IsPresent, Shape, cell_of, name_at}
use Rattle.weak_maps.specs.declared.entries.WeakEntry.{WeakEntry}
use Rattle.slice_driver.specs.Listings.{AreEntriesHeld, edge_lines_at, edges_below, lines_of_cell}
use Rattle.slice_driver.proofs.dumping.Fields.{cell_lines}

-- the lines of all fields of a cell are those of its edges
pub numbered_lines : (s : Shape) (p : Place) (n : ℕ) → name_at s p ≡ Some (Cell n)
    → edges_below s p n (edge_count s p) ≡ edge_lines_at s p
numbered_lines s p n is =
    cell_lines s (cell_of s p) n ∙ ap (λ (x : Option Name). lines_of_cell s (cell_of s p) x) (sym is)

-- the three places of an entry are those of present cells
pub entry_held : (s : Shape) (i : ℕ) (entry : WeakEntry) → AreEntriesHeld s → IsSound s.weak
    → slice_get s.weak.entries i ≡ Some entry
    → IsPresent s entry.map × IsPresent s entry.key × IsPresent s entry.value
entry_held s i entry held sound is = held entry.map entry.key entry.value
    ((sound.found entry.map entry.key entry.value).0 (contains_at s.weak.entries i entry is))
