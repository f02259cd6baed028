-- The wrappers that are looked at, and the edges that they lead along.
use Rattle.std.specs.Prelude.{◌≡◌, ◌≢◌, ℕ, zero, suc, ◌+◌, ◌-◌, ◌*◌, ◌<◌, ◌≤◌, ◌⊎◌, ◌↔◌, Bool, Option, Some, Contains}
use Rattle.std.specs.Prelude.{length}
use Rattle.std.specs.Prelude.{true, false, List, slice_get, slice_index, slice_index_or, slice_set}
use Rattle.std.specs.Int.{bit_at}
use Rattle.std.specs.Option.{option_map}
use Rattle.gz_names.specs.Zones.{HasZone}
use Rattle.gz_names.specs.declared.commands.Kind.TheVariants as kind
use Rattle.gz_names.specs.declared.numbers.CompNo.{CompNo}
use Rattle.gz_names.specs.declared.numbers.Place.{Place}
use Rattle.gz_names.specs.declared.zone_sets.ZoneSet.{ZoneSet}
use Rattle.cell_bits.specs.declared.bits.Colour.TheVariants as colour
use Rattle.wrappers.specs.WrapperMaps.{AreApart, list_of}
use Rattle.wrappers.specs.declared.wrapper_maps.WrapperKey.{WrapperKey}
use Rattle.weak_maps.specs.WeakMaps.{delegate_of, value_of}
use Rattle.heap_core.specs.declared.plans.Change.{Change}
use Rattle.heap_core.specs.declared.plans.Change.TheVariants as change
use Rattle.heap_core.specs.Shape.{IsDelegate, IsPresent, Shape, cell_of, field_at, zone_of}
use Rattle.heap_core.specs.Heap.{HeapState, colour_of}
use Rattle.zone_edges.specs.Groups.{Edge}
use Rattle.zone_edges.specs.Noted.{Noted}

-- the wrapper at an index of a zone's list, in the order of adding
abbrev pub wrapper_at : Shape → ℕ → ℕ → Option Place
wrapper_at s zone index = option_map (λ entry. entry.1) (slice_get (list_of s.wrappers zone) index)

-- how many wrappers of a zone were looked at
abbrev pub cursor_of : Noted → ℕ → ℕ
cursor_of n zone = slice_index_or n.cursors zone 0

-- a wrapper was looked at: it stands before the cursor in the list of its zone
pub record IsLookedAt (s : Shape) (n : Noted) (p : Place) : Type 0 where
  pub index : ℕ
  pub before : index < cursor_of n (zone_of s p)
  pub stands : wrapper_at s (zone_of s p) index ≡ Some p

-- each wrapper of the zones was looked at
abbrev pub AreAllLookedAt : Shape → Noted → Type 0
AreAllLookedAt s n = (z : ℕ) → HasZone n.zones.bits z → length (list_of s.wrappers z) ≤ cursor_of n z

-- how many wrappers of the zones below a number are not looked at
unfoldable pub left_below : Shape → Noted → ℕ → ℕ
left_below s n zero = 0
left_below s n (suc z) = left_below s n z + bit_at n.zones.bits z * (length (list_of s.wrappers z) - cursor_of n z)

-- how many wrappers of the zones are not looked at
abbrev pub left_to_look : Shape → Noted → ℕ
left_to_look s n = left_below s n 64

-- a place is a wrapper of a zone: a present cell of that kind, whose target is present
pub record IsWrapperIn (s : Shape) (zone : ℕ) (p : Place) : Type 0 where
  pub kind_is : option_map (λ cell. cell.kind) (cell_of s p) ≡ Some kind.Wrapper
  pub zone_is : zone_of s p ≡ zone
  pub target : Place
  pub target_is : field_at s p 0 ≡ Some target
  pub held : IsPresent s target

-- the wrapper maps of each zone hold its wrappers, where no key stands twice in them
abbrev pub AreWrappers : Shape → Type 0
AreWrappers s = AreApart s.wrappers.lists → (z : ℕ) (entry : WrapperKey × Place) → Contains (list_of s.wrappers z) entry
    → IsWrapperIn s z entry.1

-- the next wrapper of a zone of these was taken by the zone's cursor, which was raised
pub record TakesNext (s : Shape) (zones : ℕ) (before : List ℕ) (z : ℕ) (p : Place) (after : List ℕ) : Type 0 where
  pub zone : HasZone zones z
  pub next : wrapper_at s z (slice_index before z) ≡ Some p
  pub wrapper : IsWrapperIn s z p
  pub raised : after ≡ slice_set before z (slice_index before z + 1)

-- a wrapper leads from one zone of a set to another, to a cell that is not black
pub record LeadsFrom (h : HeapState) (zones : ZoneSet) (p : Place) (a b : ℕ) : Type 0 where
  pub target : Place
  pub target_is : field_at h.shape p 0 ≡ Some target
  pub from : zone_of h.shape p ≡ a
  pub to : zone_of h.shape target ≡ b
  pub has_from : HasZone zones.bits a
  pub has_to : HasZone zones.bits b
  pub apart : a ≢ b
  pub pale : colour_of h target ≢ colour.Black

-- a cell is the key of some entry of a weak map
abbrev pub IsKey : Shape → Place → Type 0
IsKey s p = (m v : Place) × (value_of s.weak m p ≡ Some v)

-- an edge is noted for a wrapper: the one along which it leads, and if it is the key of an entry its reverse as well,
-- since it lives as long as its target does
abbrev pub IsEdgeFor : HeapState → ZoneSet → Place → ℕ → ℕ → Type 0
IsEdgeFor h zones p a b = LeadsFrom h zones p a b ⊎ (IsKey h.shape p × LeadsFrom h zones p b a)

-- an entry whose key is a wrapper came with what that leads to
abbrev pub AreDelegated : Shape → Type 0
AreDelegated s = (m k v d : Place) → value_of s.weak m k ≡ Some v → IsDelegate s k d → delegate_of s.weak m k ≡ Some d

-- each wrapper of the zones that was not looked at has a black target
abbrev pub AreLeftBlack : HeapState → Noted → Type 0
AreLeftBlack h n = (z index : ℕ) (p q : Place) → HasZone n.zones.bits z → cursor_of n z ≤ index
    → wrapper_at h.shape z index ≡ Some p → field_at h.shape p 0 ≡ Some q → colour_of h q ≡ colour.Black

-- the target of the wrapper that a change makes, if it makes one, is black
abbrev pub WrapsBlack : HeapState → Change → Type 0
WrapsBlack h ch = (r z : ℕ) (comp : CompNo) (t : Place) → ch ≡ change.Wrapper r z comp t → colour_of h t ≡ colour.Black

-- one wrapper more was looked at, the next of its zone, and its edges are noted where it leads along one
pub record LooksAtNext (h : HeapState) (old new : Noted) : Type 0 where
  pub zone : ℕ
  pub wrapper : Place
  pub has_zone : HasZone old.zones.bits zone
  pub next : wrapper_at h.shape zone (cursor_of old zone) ≡ Some wrapper
  pub is_wrapper : IsWrapperIn h.shape zone wrapper
  pub raised : cursor_of new zone ≡ cursor_of old zone + 1
  pub others : (z : ℕ) → z ≢ zone → cursor_of new z ≡ cursor_of old z
  pub looked : (p : Place) → IsLookedAt h.shape new p ↔ (IsLookedAt h.shape old p ⊎ (p ≡ wrapper))
  pub edges : (a b : ℕ) → Edge new.sources a b ↔ (Edge old.sources a b ⊎ IsEdgeFor h old.zones wrapper a b)
  pub left : left_to_look h.shape old ≡ left_to_look h.shape new + 1

-- a look was done, or each wrapper was looked at
abbrev pub Looks : HeapState → Noted → Bool → Noted → Type 0
Looks h old true new = LooksAtNext h old new
Looks h old false new = AreAllLookedAt h.shape old × (new ≡ old)
