-- Where the cells of a heap lie in a world.
use Rattle.std.specs.Prelude.{◌≡◌, ◌↔◌, ◌⊎◌, ◌<◌, ℕ, suc, true, is_some, if◌then◌else◌, List, [], ◌∷◌, map, Option}
use Rattle.std.specs.Prelude.{Some, Contains, length}
use Rattle.std.specs.FinMap as places
use Rattle.std.specs.List.{IsDistinct}
use Rattle.gz_names.specs.declared.names.Name.{Name}
use Rattle.gz_names.specs.declared.numbers.Place.{Place}
use Rattle.cell_bits.specs.declared.bits.Bits.{Bits}
use Rattle.cell_bits.specs.declared.bits.Colour.TheVariants as colour
use Rattle.cell_bits.specs.Colours.{colour_of}
use Rattle.arena_table.specs.Cells.{CellState}
use Rattle.colour_defs.specs.Graph.{GraphState}
use Rattle.colour_defs.specs.World.{Has, WeakNames, World}
use Rattle.colour_defs.specs.Present as present
use Rattle.weak_maps.specs.Delegates.{DelegateRow}
use Rattle.weak_refs.specs.WeakNames.{WeakNamesState, is_same}
use Rattle.heap_core.specs.Shape.{ArenaShape, AreWhole, IsPresent, Shape, held_name, is_white, name_at, out_of}
use Rattle.heap_core.specs.Shape.{owner_in, stored_at, zone_of}
use Rattle.heap_core.specs.Heap.{HeapState}
use Rattle.heap_core.specs.Shows.{Shows}

-- the zone of each arena, and none for one that was given up
abbrev pub owners_of : List ArenaShape → List (Option ℕ)
owners_of arenas = map (λ (arena : ArenaShape). owner_in (Some arena)) arenas

-- the numbers of the arenas that are handed to sweeping, where the first of the list has the number n
abbrev pub outs_from : ℕ → List ArenaShape → List ℕ
outs_from n [] = []
outs_from n (arena ∷ arenas) = if is_some arena.out then n ∷ outs_from (suc n) arenas else outs_from (suc n) arenas

-- a cell that was white as its arena was handed to sweeping, and still lies there
pub record IsUnswept (s : Shape) (p : Place) (x : Name) : Type 0 where
  pub bits : Bits
  pub cell : CellState
  pub out_is : out_of s p.0 ≡ Some bits
  pub white : is_white bits p.1 ≡ true
  pub cell_is : stored_at s p ≡ Some cell
  pub name_is : cell.name ≡ x

-- the bits of an arena in flight: the colours are those at hand-out, but that gray slots may have turned black
pub record IsWokenFrom (old new : Bits) : Type 0 where
  pub white : (i : ℕ) → colour_of old i ≡ colour.White → colour_of new i ≡ colour.White
  pub gray : (i : ℕ) → colour_of old i ≡ colour.Gray → (colour_of new i ≡ colour.Gray)
      ⊎ (colour_of new i ≡ colour.Black)
  pub black : (i : ℕ) → colour_of old i ≡ colour.Black → colour_of new i ≡ colour.Black

-- exactly the arenas that are handed to sweeping are in flight
pub record IsInFlight (s : Shape) (flown : ℕ → Option Bits) : Type 0 where
  pub covers : (a : ℕ) → is_some (flown a) ≡ is_some (out_of s a)
  pub woken : (a : ℕ) (old new : Bits) → out_of s a ≡ Some old → flown a ≡ Some new → IsWokenFrom old new

-- what is named weakly are present cells, under their names, and none is watched twice
pub record NamesWeakly (s : Shape) (h : WeakNamesState) (w : WeakNames) : Type 0 where
  pub slots_are : w.slots ≡ map (held_name s) h.slots
  pub slots_held : (p : Place) → Contains h.slots (Some p) → IsPresent s p
  pub watched_are : (x : Name) → Has w.watched x ↔ ((p : Place) × Contains h.watched p × (name_at s p ≡ Some x))
  pub watched_held : (p : Place) → Contains h.watched p → IsPresent s p
  pub once : IsDistinct is_same h.watched

-- the heap has the present cells of the world, each at its place, and names weakly what the world does
pub record LiesIn (h : HeapState) (w : World) : Type 0 where
  pub whole : AreWhole h.shape.arenas
  pub graph : GraphState
  pub shown : Shows h graph
  pub part : present.Shows w graph
  pub places_are : (x : Name) (p : Place) → (places.get w.places x ≡ Some p) ↔ (name_at h.shape p ≡ Some x)
  pub owner_is : w.owner ≡ owners_of h.shape.arenas
  pub weak_are : NamesWeakly h.shape h.weak_names w.weak
  pub out_is : w.out ≡ outs_from 0 h.shape.arenas
  pub white_are : (x : Name) (p : Place) → Contains {X = Name × (ℕ × ℕ)} w.white (x, p) ↔ IsUnswept h.shape p x

-- the row of a weak entry whose key is a wrapper: it tells the zone of the key
pub record IsRowAtHome (s : Shape) (row : DelegateRow) : Type 0 where
  pub within : row.key.0 < length s.arenas
  pub zone_is : row.zone ≡ zone_of s row.key

abbrev pub AreRowsAtHome : Shape → Type 0
AreRowsAtHome s = (row : DelegateRow) → Contains s.weak.delegates.rows row → IsRowAtHome s row
