-- What holds of the entries of weak maps while some of them are still to be looked at.
use Rattle.std.specs.Prelude.{◌≡◌, ◌⊎◌, ℕ, true, List, Option, Some, Contains, slice_get}
use Rattle.gz_names.specs.declared.numbers.Place.{Place}
use Rattle.zones.specs.declared.states.State.TheVariants as state
use Rattle.mark_stack.specs.Stack.{Piles}
use Rattle.weak_maps.specs.declared.entries.WeakEntry.{WeakEntry}
use Rattle.weak_maps.specs.Delegates.{DelegateRow}
use Rattle.weak_maps.specs.WeakMaps.{WeakMapsState}
use Rattle.weak_maps.specs.declared.colours.MarkColour.{MarkColour}
use Rattle.weak_maps.specs.declared.colours.MarkColour.TheVariants as mark
use Rattle.heap_core.specs.Shape.{IsDelegate, is_marking, state_of}
use Rattle.heap_core.specs.Heap.{HeapState, weak_of}
use Rattle.barriers.specs.Reached.{HasEntry}
use Rattle.barriers.specs.Colours.{IsBlack, IsSeen}

-- a number is to be looked at in a colour, or in black: a look raises the value to the weaker of the colours of map and
-- key, so one in black serves gray as well
abbrev pub IsToCome : MarkColour → List (Option MarkColour) → ℕ → Type 0
IsToCome c left n = (slice_get left n ≡ Some (Some c)) ⊎ (slice_get left n ≡ Some (Some mark.Black))

-- a key of a map has a row, which is still to be looked at in a colour or in black, wherever it stands
pub record RowIsToCome (weak : WeakMapsState) (c : MarkColour) (m k : Place) : Type 0 where
  pub number : ℕ
  pub row : DelegateRow
  pub there : slice_get weak.table.delegates.rows number ≡ Some row
  pub map : row.map ≡ m
  pub key : row.key ≡ k
  pub to_come : (n : ℕ) (other : DelegateRow) → slice_get weak.table.delegates.rows n ≡ Some other → other.map ≡ m
      → other.key ≡ k → IsToCome c weak.looks.by_delegate n

-- the entry of a key in a map is still to be looked at in a colour or in black, for its map, for its key or for its
-- delegate, wherever it stands
abbrev pub IsLeft : WeakMapsState → MarkColour → Place → Place → Type 0
IsLeft weak c m k = (n : ℕ) (entry : WeakEntry) → slice_get weak.table.entries n ≡ Some entry → entry.map ≡ m
    → entry.key ≡ k
    → IsToCome c weak.looks.by_map n ⊎ (IsToCome c weak.looks.by_key n ⊎ RowIsToCome weak c m k)

-- which entries are left, each by its map and its key
abbrev pub Left : Type 1
Left = MarkColour → Place → Place → Type 0

abbrev pub left_of : HeapState → Left
left_of h = IsLeft (weak_of h)

-- a cell is on a pile of marking
abbrev pub IsPiled : Piles → Place → Type 0
IsPiled p x = Contains p.black x ⊎ Contains p.gray x

-- the value of an entry of a black map and a black key is black, or the map or the key is still to be scanned, or the
-- entry is left
abbrev pub BlackOrLeft : HeapState → Piles → Left → Place → Place → Place → Type 0
BlackOrLeft h p left m k v = IsBlack h v ⊎ (Contains p.black m ⊎ (Contains p.black k ⊎ left mark.Black m k))

-- the value of an entry whose map and key are seen is seen, or the map or the key is still to be scanned, or the entry
-- is left
abbrev pub SeenOrLeft : HeapState → Piles → Left → Place → Place → Place → Type 0
SeenOrLeft h p left m k v = IsSeen h v ⊎ (IsPiled p m ⊎ (IsPiled p k ⊎ left mark.Gray m k))

-- the key of an entry whose map and delegate are seen is seen, or one of the two is still to be scanned, or the entry
-- is
-- left
abbrev pub SeenOrLeftKey : HeapState → Piles → Left → Place → Place → Place → Type 0
SeenOrLeftKey h p left m d k = IsSeen h k ⊎ (IsPiled p m ⊎ (IsPiled p d ⊎ left mark.Gray m k))

-- so it is with each entry in a marking zone, and with each in a zone that takes gray
pub record WeakPoint (h : HeapState) (p : Piles) (left : Left) : Type 0 where
  pub black : (m k v : Place) → HasEntry h.shape m k v → IsBlack h m → IsBlack h k → is_marking h.shape v ≡ true
      → BlackOrLeft h p left m k v
  pub gray : (m k v : Place) → HasEntry h.shape m k v → IsSeen h m → IsSeen h k
      → state_of h.shape v ≡ state.MarkBlackAndGray → SeenOrLeft h p left m k v
  pub gray_key : (m k v d : Place) → HasEntry h.shape m k v → IsDelegate h.shape k d → IsSeen h m → IsSeen h d
      → state_of h.shape k ≡ state.MarkBlackAndGray → SeenOrLeftKey h p left m d k

-- entries that stay are still to be looked at as they were
abbrev pub StayLeft : HeapState → HeapState → Type 0
StayLeft h k = (m n v : Place) → HasEntry h.shape m n v → HasEntry k.shape m n v → (c : MarkColour) → left_of h c m n
    → left_of k c m n
