-- The watched cells that die as a group ends.
use Rattle.std.specs.Prelude.{◌≡◌, ◌↔◌, ◌<◌, ◌++◌, ℕ, List, [], ◌∷◌, Some, Contains, slice_get}
use Rattle.std.specs.List.{IsDistinct}
use Rattle.gz_names.specs.Order.{same_name}
use Rattle.gz_names.specs.Zones.{HasZone}
use Rattle.gz_names.specs.declared.names.Name.{Name}
use Rattle.gz_names.specs.declared.numbers.Place.{Place}
use Rattle.heap_core.specs.Shape.{name_at, zone_of}
use Rattle.heap_core.specs.Heap.{HeapState}
use Rattle.barriers.specs.Colours.{IsWhite}

-- a cell of these zones is white
abbrev pub IsLost : HeapState → ℕ → Place → Type 0
IsLost h zones p = HasZone zones (zone_of h.shape p) × IsWhite h p

-- the name of a watched cell of these zones that is white
pub record IsTold (h : HeapState) (zones : ℕ) (x : Name) : Type 0 where
  pub place : Place
  pub watched : Contains h.weak_names.watched place
  pub named : name_at h.shape place ≡ Some x
  pub here : HasZone zones (zone_of h.shape place)
  pub white : IsWhite h place

-- the name of such a cell among the first that are watched
pub record IsToldBefore (h : HeapState) (zones n : ℕ) (x : Name) : Type 0 where
  pub index : ℕ
  pub below : index < n
  pub place : Place
  pub watched : slice_get h.weak_names.watched index ≡ Some place
  pub named : name_at h.shape place ≡ Some x
  pub lost : IsLost h zones place

-- exactly the names of these, each once
pub record AreTold (h : HeapState) (zones n : ℕ) (names : List Name) : Type 0 where
  pub has : (x : Name) → Contains names x ↔ IsToldBefore h zones n x
  pub once : IsDistinct same_name names

-- the name of a cell came to the others, if the cell is lost
pub data TellsOf (h : HeapState) (zones : ℕ) (p : Place) (old new : List Name) : Type 0 where
  told : (x : Name) → IsLost h zones p → name_at h.shape p ≡ Some x → new ≡ old ++ x ∷ [] → TellsOf h zones p old new
  kept : (IsLost h zones p → ⊥) → new ≡ old → TellsOf h zones p old new
