-- Gray roots are gathered as a collection begins.
use Rattle.std.specs.Prelude.{◌≡◌, ◌⊎◌, ◌↔◌, ◌<◌, ◌≤◌, ◌+◌, ℕ, List, Some, Contains, slice_get, length, sum_by}
use Rattle.gz_names.specs.Zones.{HasZone}
use Rattle.gz_names.specs.declared.numbers.Place.{Place}
use Rattle.gz_names.specs.declared.numbers.ZoneNo.{ZoneNo}
use Rattle.gz_names.specs.declared.zone_sets.ZoneSet.{ZoneSet}
use Rattle.cell_bits.specs.declared.bits.Colour.TheVariants as colour
use Rattle.roots.specs.Buffers.{buffer_at, places_in}
use Rattle.wrappers.specs.WrapperMaps.{list_of}
use Rattle.heap_core.specs.Shape.{Shape, field_at, zone_of}
use Rattle.heap_core.specs.Heap.{HeapState, colour_of}
use Rattle.slice_driver.specs.ListedWrappers.{is_outside, listed_below}
use Rattle.zone_edges.specs.Looks.{AreWrappers}
use Rattle.slice_driver.specs.RootMarking.{LeadsAt}

-- exactly the places that meet P for a zone were put with that zone
abbrev pub Gathers : (ℕ → Place → Type 0) → List (ZoneNo × Place) → List (ZoneNo × Place) → Type 0
Gathers P old new = (z : ℕ) (x : Place) → Contains (places_in z new) x ↔ (Contains (places_in z old) x ⊎ P z x)

-- a place for the zone of a cell, if that is one of these zones
abbrev pub IsFor : Shape → ZoneSet → Place → Place → ℕ → Place → Type 0
IsFor s zones cell place z x = HasZone zones.bits z × (zone_of s cell ≡ z) × (x ≡ place)

-- a wrapper for the zone of its target, if it is gray and that is one of these zones
abbrev pub IsGrayWrapper : HeapState → ZoneSet → Place → ℕ → Place → Type 0
IsGrayWrapper h zones u z x = (colour_of h u ≡ colour.Gray) × (y : Place) × (field_at h.shape u 0 ≡ Some y)
    × IsFor h.shape zones y u z x

-- one of the first gray slots holds a cell of this zone, one of these zones
abbrev pub IsSlotBefore : Shape → ZoneSet → ℕ → ℕ → Place → Type 0
IsSlotBefore s zones n z x = (i : ℕ) × (i < n) × (slice_get s.slots i ≡ Some (Some x)) × IsFor s zones x x z x

-- some gray slot does so
abbrev pub IsInSlot : Shape → ZoneSet → ℕ → Place → Type 0
IsInSlot s zones z x = HasZone zones.bits z × (zone_of s x ≡ z) × Contains s.slots (Some x)

-- a gray wrapper of a zone's list leads to a cell of this zone, one of these zones
abbrev pub IsGrayAt : HeapState → ZoneSet → ℕ → ℕ → ℕ → Place → Type 0
IsGrayAt h zones zone i z x = HasZone zones.bits z × (y : Place) × LeadsAt colour.Gray h zone i x y
    × (zone_of h.shape y ≡ z)

abbrev pub IsGrayBefore : HeapState → ZoneSet → ℕ → ℕ → ℕ → Place → Type 0
IsGrayBefore h zones zone n z x = (i : ℕ) × (i < n) × IsGrayAt h zones zone i z x

abbrev pub IsGrayOf : HeapState → ZoneSet → ℕ → ℕ → Place → Type 0
IsGrayOf h zones zone z x = (i : ℕ) × IsGrayAt h zones zone i z x

-- it is a gray wrapper of one of the first zones, which is none of these, and its target's zone is this one
abbrev pub IsGrayAmong : HeapState → ZoneSet → ℕ → ℕ → Place → Type 0
IsGrayAmong h zones n z x = (w : ℕ) × (w < n) × (HasZone zones.bits w → ⊥) × IsGrayOf h zones w z x

-- no zone has more wrappers than there can be slots of cells
abbrev pub HasFewWrappers : Shape → Type 0
HasFewWrappers s = (z : ℕ) → length (list_of s.wrappers z) ≤ 274877906944

-- what gathering gray wrappers asks of a heap
pub record MayGather (h : HeapState) : Type 0 where
  pub wrappers : AreWrappers h.shape
  pub sized : length h.colours ≡ length h.shape.arenas
  pub few : HasFewWrappers h.shape

-- exactly the gray roots of these zones were put into the buffers of their zones, at most one for each gray slot and
-- one for each wrapper of another zone, and nothing else changed
pub record Buffers (h : HeapState) (zones : ZoneSet) (k : HeapState) : Type 0 where
  pub rest : k ≡ record h { buffers = k.buffers }
  pub roots : (z : ℕ) (x : Place) → Contains (buffer_at k.buffers z) x
      ↔ (Contains (buffer_at h.buffers z) x
      ⊎ (IsInSlot h.shape zones z x ⊎ IsGrayAmong h zones (length h.shape.states) z x))
  pub few : sum_by length k.buffers
      ≤ sum_by length h.buffers + (64 + listed_below h.shape (is_outside zones) (length h.shape.states))
