-- Roots are marked as a collection begins.
use Rattle.std.specs.Prelude.{◌≡◌, ◌⊎◌, ◌↔◌, ◌<◌, ℕ, length, Some, None, Contains, slice_index_or}
use Rattle.gz_names.specs.Zones.{HasZone}
use Rattle.gz_names.specs.declared.numbers.Place.{Place}
use Rattle.gz_names.specs.declared.zone_sets.ZoneSet.{ZoneSet}
use Rattle.cell_bits.specs.declared.bits.Colour.{Colour}
use Rattle.cell_bits.specs.declared.bits.Colour.TheVariants as colour
use Rattle.mark_stack.specs.Stack.{Piles, IsPushed}
use Rattle.mark_stack.specs.declared.stack.Pile.TheVariants as pile
use Rattle.heap_core.specs.Shape.{Shape, field_at, out_of, zone_of}
use Rattle.heap_core.specs.Heap.{HeapState, colour_of}
use Rattle.zone_edges.specs.Looks.{wrapper_at}
use Rattle.barriers.specs.Colours.{IsBlack, IsGray}
use Rattle.barriers.specs.Scans.{ScansNoMore}
use Rattle.heap_core.specs.MarkBits.{TakesBlack}
use Rattle.slice_driver.specs.Begins.{IsWithin}

-- the cells of these zones that meet P turned black, and those that were not black before are pending in black; no
-- cell may be scanned more often
pub record Marks (P : Place → Type 0) (zones : ZoneSet) (h : HeapState) (p : Piles) (k : HeapState) (q : Piles) : Type 0
  where
    pub rest : k ≡ record h { colours = k.colours }
    pub sized : length k.colours ≡ length h.colours
    pub black : (x : Place) → IsBlack k x ↔ (IsBlack h x ⊎ (P x × IsWithin h.shape zones x))
    pub gray : (x : Place) → IsGray k x → IsGray h x
    pub outside : (x : Place) → (IsWithin h.shape zones x → ⊥) → colour_of k x ≡ colour_of h x
    pub pile : (x : Place) → Contains q.black x ↔ (Contains p.black x ⊎ (IsBlack k x × (IsBlack h x → ⊥)))
    pub gray_pile : q.gray ≡ p.gray
    pub wake_pile : q.wake ≡ p.wake
    pub scans : ScansNoMore h p k q

-- a cell was black already, or its black bit was set and it became pending in black
abbrev pub Blackens : HeapState → Piles → Place → HeapState → Piles → Type 0
Blackens h p x k q = (IsBlack h x × (k ≡ h) × (q ≡ p)) ⊎ (TakesBlack h x k × IsPushed p pile.Black x q)

-- no arena is handed to sweeping, and what is pending in black is black
pub record IsReady (h : HeapState) (p : Piles) : Type 0 where
  pub sized : length h.colours ≡ length h.shape.arenas
  pub kept : (a : ℕ) → out_of h.shape a ≡ None
  pub piled : (x : Place) → Contains p.black x → IsBlack h x

-- one of the first registers, of which those behind the sixteenth are pinned roots, holds a cell
abbrev pub IsHeldBefore : Shape → ℕ → Place → Type 0
IsHeldBefore s n x = (i : ℕ) × (i < n) × (slice_index_or s.regs i None ≡ Some x)

-- a wrapper of a zone's list has this colour, and leads to a cell
pub record LeadsAt (c : Colour) (h : HeapState) (zone i : ℕ) (u x : Place) : Type 0 where
  pub stands : wrapper_at h.shape zone i ≡ Some u
  pub zone_is : zone_of h.shape u ≡ zone
  pub colour_is : colour_of h u ≡ c
  pub target : field_at h.shape u 0 ≡ Some x

-- one of the first wrappers of a zone does so
abbrev pub IsTargetBefore : HeapState → ℕ → ℕ → Place → Type 0
IsTargetBefore h zone n x = (i : ℕ) × (i < n) × (u : Place) × LeadsAt colour.Black h zone i u x

-- a black wrapper of a zone leads to a cell
abbrev pub IsTargetOf : HeapState → ℕ → Place → Type 0
IsTargetOf h zone x = (i : ℕ) × (u : Place) × LeadsAt colour.Black h zone i u x

-- no wrapper of a zone's list leads into these zones
abbrev pub LeadsElsewhere : Shape → ZoneSet → ℕ → Type 0
LeadsElsewhere s zones zone = (i : ℕ) (u x : Place) → wrapper_at s zone i ≡ Some u → field_at s u 0 ≡ Some x
    → IsWithin s zones x → ⊥

-- a zone is one of these, or no wrapper of it leads into them
abbrev pub IsNoSource : Shape → ZoneSet → ℕ → Type 0
IsNoSource s zones zone = HasZone zones.bits zone ⊎ LeadsElsewhere s zones zone

-- a black wrapper of one of the first zones, outside of these, leads to a cell
abbrev pub IsTargetAmong : HeapState → ZoneSet → ℕ → Place → Type 0
IsTargetAmong h zones n x = (z : ℕ) × (z < n) × (HasZone zones.bits z → ⊥) × IsTargetOf h z x
