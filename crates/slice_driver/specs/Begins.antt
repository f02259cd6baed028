-- How marking begins, by places.
use Rattle.std.specs.Prelude.{◌≡◌, ◌⊎◌, ◌↔◌, ◌<◌, ◌≤◌, ◌+◌, ◌*◌, ℕ, [], length, Some, Contains, sum_by}
use Rattle.gz_names.specs.Zones.{HasZone}
use Rattle.gz_names.specs.declared.numbers.Place.{Place}
use Rattle.gz_names.specs.declared.zone_sets.ZoneSet.{ZoneSet}
use Rattle.zones.specs.declared.states.State.TheVariants as state
use Rattle.mark_stack.specs.Stack.{Piles}
use Rattle.wrappers.specs.WrapperMaps.{list_of}
use Rattle.wrappers.specs.declared.wrapper_maps.WrapperKey.{WrapperKey}
use Rattle.gray_lists.specs.Incoming as incoming
use Rattle.gray_lists.specs.Incoming.{Incoming}
use Rattle.heap_core.specs.Shape.{HasEdge, Shape, field_at, state_in, zone_of}
use Rattle.heap_core.specs.Heap.{HeapState, colour_of}
use Rattle.barriers.specs.Colours.{IsBlack, IsGray}
use Rattle.barriers.specs.PendingLive.{buffer_of}
use Rattle.barriers.specs.Scans.{AreScannedOnce}
use Rattle.slice_driver.specs.ListedWrappers.{is_outside, listed_below}

-- a cell of one of these zones
abbrev pub IsWithin : Shape → ZoneSet → Place → Type 0
IsWithin s zones x = HasZone zones.bits (zone_of s x)

-- each of these zones is made
abbrev pub AreMade : Shape → ZoneSet → Type 0
AreMade s zones = (z : ℕ) → HasZone zones.bits z → z < length s.states

-- a register holds it, or a black cell of another zone leads to it
abbrev pub IsBlackRoot : HeapState → ZoneSet → Place → Type 0
IsBlackRoot h zones x = Contains h.shape.regs (Some x)
    ⊎ ((u : Place) × (IsWithin h.shape zones u → ⊥) × IsBlack h u × HasEdge h.shape u x)

-- a gray cell of another zone leads into this one
abbrev pub LeadsInto : HeapState → ZoneSet → ℕ → Place → Type 0
LeadsInto h zones z x = (IsWithin h.shape zones x → ⊥) × IsGray h x × (y : Place) × HasEdge h.shape x y
    × (zone_of h.shape y ≡ z)

-- what waits for the gray marking of a zone: its cells in gray slots, and the gray cells of other zones that lead into
-- it
abbrev pub IsGrayRoot : HeapState → ZoneSet → ℕ → Place → Type 0
IsGrayRoot h zones z x = HasZone zones.bits z
    × (((zone_of h.shape x ≡ z) × Contains h.shape.slots (Some x)) ⊎ LeadsInto h zones z x)

-- a cell is a wrapper on the list of its zone, and leads to this target
pub record IsListed (s : Shape) (p q : Place) : Type 0 where
  pub key : WrapperKey
  pub listed : Contains (list_of s.wrappers (zone_of s p)) (key, p)
  pub target : field_at s p 0 ≡ Some q

-- marking of these zones has begun: in them exactly the black roots are black and pending in black, each once, and
-- none is gray; other zones are as before
pub record BeginsMarking (h : HeapState) (zones : ZoneSet) (k : HeapState) (stack : Piles) (lists : Incoming) : Type 0
  where
    pub shape_is : k.shape ≡ record h.shape { states = k.shape.states }
    pub made_is : k.made ≡ h.made
    pub weak_names_is : k.weak_names ≡ h.weak_names
    pub ledger_is : k.ledger ≡ h.ledger
    pub delayed_is : k.delayed ≡ h.delayed
    pub looks_is : k.looks ≡ h.looks
    pub count : length k.shape.states ≡ length h.shape.states
    pub states : (z : ℕ) → HasZone zones.bits z → state_in k.shape z ≡ state.MarkBlackOnly
    pub other_states : (z : ℕ) → (HasZone zones.bits z → ⊥) → state_in k.shape z ≡ state_in h.shape z
    pub sized : length k.colours ≡ length h.colours
    pub within : (x : Place) → IsWithin h.shape zones x → IsBlack k x ↔ IsBlackRoot h zones x
    pub none_gray : (x : Place) → IsWithin h.shape zones x → IsGray k x → ⊥
    pub outside : (x : Place) → (IsWithin h.shape zones x → ⊥) → colour_of k x ≡ colour_of h x
    pub black_pile : (x : Place) → Contains stack.black x ↔ (IsBlack k x × IsWithin h.shape zones x)
    pub gray_pile : stack.gray ≡ []
    pub wake_pile : stack.wake ≡ []
    pub once : AreScannedOnce k stack
    pub buffered : (z : ℕ) (x : Place) → Contains (buffer_of k z) x ↔ IsGrayRoot h zones z x
    pub few_buffered : sum_by length k.buffers
        ≤ 64 + listed_below h.shape (is_outside zones) (length h.shape.states)
    pub none_incoming : (c : ℕ) → incoming.list_of lists c ≡ []
    pub lists_room : 64 * length k.colours ≤ lists.room
