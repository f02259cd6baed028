-- The end of a group: when it may come, the colours then, and what it leaves.
use Rattle.std.specs.Prelude.{◌≡◌, ◌↔◌, ◌⊎◌, ◌<◌, ℕ, true, List, [], ◌∷◌, length, Option, Some, None, IsSome, slice_get}
use Rattle.std.specs.Int.{bit_at}
use Rattle.gz_names.specs.Zones.{HasZone}
use Rattle.gz_names.specs.declared.names.Name.{Name}
use Rattle.gz_names.specs.declared.numbers.Place.{Place}
use Rattle.gz_names.specs.declared.zone_sets.ZoneSet.{ZoneSet}
use Rattle.cell_bits.specs.declared.bits.Bits.{Bits}
use Rattle.zones.specs.declared.states.State.TheVariants as state
use Rattle.wrappers.specs.WrapperMaps.{AreApart, list_of, without_dead}
use Rattle.weak_maps.specs.WeakMaps.{AreParallel, Carries, IsSound as AreEntries, IsWithoutDead, KeepsRows, NoneLeft}
use Rattle.weak_maps.specs.declared.colours.MarkColour.TheVariants as mark
use Rattle.weak_refs.specs.WeakNames.{without_dead as without_dead_names}
use Rattle.mark_stack.specs.Stack.{Piles}
use Rattle.gray_lists.specs.Incoming.{Incoming, list_of as waiting_for}
use Rattle.colour_defs.specs.Graph.{GraphState}
use Rattle.colour_defs.specs.World.{Collection}
use Rattle.colour_defs.specs.Ends.{IsBlackAtEnd, IsGrayAtEnd, IsWhiteAtEnd}
use Rattle.arena_table.specs.Indexed.{in_zones}
use Rattle.heap_core.specs.Shape.{IsDelegate, IsPresent, Shape, is_marking, name_at, out_of, state_in, zone_of}
use Rattle.heap_core.specs.Heap.{HeapState, weak_of}
use Rattle.heap_core.specs.Sweeping.{handed, is_absent}
use Rattle.barriers.specs.Reached.{HasEntry}
use Rattle.barriers.specs.Colours.{IsBlack, IsGray, IsSeen, IsWhite}
use Rattle.barriers.specs.PendingLive.{buffer_of}
use Rattle.slice_driver.specs.Collector.{CollectorState, RunState}

-- nothing is left to mark for a group: its zones all take gray, no cell is pending, nothing waits for it, no weak
-- entry is to be looked at, and the weak rule adds nothing, in black for any marking zone and any key, in gray for the
-- group
pub record IsMarked (h : HeapState) (p : Piles) (lists : Incoming) (g : ZoneSet) : Type 0 where
  pub begun : (z : ℕ) → HasZone g.bits z → state_in h.shape z ≡ state.MarkBlackAndGray
  pub black_empty : p.black ≡ []
  pub black_fixed : (m k v : Place) → HasEntry h.shape m k v → IsBlack h m → IsBlack h k → is_marking h.shape v ≡ true
      → IsBlack h v
  pub black_keys : (m k v d : Place) → HasEntry h.shape m k v → IsDelegate h.shape k d → IsBlack h m → IsBlack h d
      → IsBlack h k
  pub gray_empty : p.gray ≡ []
  pub none_buffered : (z : ℕ) → HasZone g.bits z → buffer_of h z ≡ []
  pub none_incoming : (z n : ℕ) → HasZone g.bits z → slice_get h.shape.comps n ≡ Some z → waiting_for lists n ≡ []
  pub gray_fixed : (m k v : Place) → HasEntry h.shape m k v → IsSeen h m → IsSeen h k
      → HasZone g.bits (zone_of h.shape v) → IsSeen h v
  pub gray_keys : (m k v d : Place) → HasEntry h.shape m k v → IsDelegate h.shape k d → IsSeen h m → IsSeen h d
      → HasZone g.bits (zone_of h.shape k) → IsSeen h k
  pub none_black : NoneLeft mark.Black h.looks
  pub none_gray : NoneLeft mark.Gray h.looks

-- the current group of a collection is ready to end, and the arenas of the group before are all taken in
pub record IsReady (c : CollectorState) (g : ZoneSet) (rest : List ZoneSet) : Type 0 where
  pub run : RunState
  pub running : c.run ≡ Some run
  pub formed : run.formed ≡ true
  pub groups_are : c.groups ≡ g ∷ rest
  pub small : (z : ℕ) → bit_at g.bits z ≡ 1 → z < 64
  pub kept : (a : ℕ) → out_of c.heap.shape a ≡ None
  pub marked : IsMarked c.heap c.stack c.lists g

-- each present cell, of any zone, has the colour that the end of a group asks; these zones mark on after it
pub record AreColoured (h : HeapState) (graph : GraphState) (k : Collection) (marking : List ℕ) : Type 0 where
  pub black : (x : Name) (p : Place) → name_at h.shape p ≡ Some x → IsBlack h p ↔ IsBlackAtEnd k x
  pub gray : (x : Name) (p : Place) → name_at h.shape p ≡ Some x → IsGray h p ↔ IsGrayAtEnd graph k marking x
  pub white : (x : Name) (p : Place) → name_at h.shape p ≡ Some x → IsWhite h p ↔ IsWhiteAtEnd graph k marking x

-- a heap after the end of a group: the arenas of its zones are handed to sweeping; its zones are swept, or are finished
-- where they have no arena; wrappers and entries that name a cell which is not present any more are dropped, weak slots
-- that name one become empty, and it is watched no longer; the other entries are to be looked at as they were
pub record IsEnded (old : HeapState) (g : ZoneSet) (new : HeapState) : Type 0 where
  pub rest : new ≡ record old {
    shape = record old.shape {
      arenas = handed g.bits old.shape.arenas old.colours;
      states = new.shape.states;
      wrappers = new.shape.wrappers;
      weak = new.shape.weak;
    };
    looks = new.looks;
    weak_names = without_dead_names (is_absent new.shape) old.weak_names;
  }
  pub sized : length new.shape.states ≡ length old.shape.states
  pub others : (z : ℕ) → (HasZone g.bits z → ⊥) → state_in new.shape z ≡ state_in old.shape z
  pub swept : (a : ℕ) → IsSome (out_of new.shape a) → (z : ℕ) → HasZone g.bits z → state_in new.shape z ≡ state.Sweep
  pub finished : ((a : ℕ) → out_of new.shape a ≡ None) → (z : ℕ) → HasZone g.bits z
      → state_in new.shape z ≡ state.Finished
  pub apart : AreApart old.shape.wrappers.lists
  pub wrappers : (z : ℕ) → list_of new.shape.wrappers z ≡ without_dead (bit_at g.bits z) (is_absent new.shape)
      (list_of old.shape.wrappers z)
  pub entries : IsWithoutDead (is_absent new.shape) old.shape.weak new.shape.weak
  pub rows : KeepsRows old.shape.weak new.shape.weak
  pub carries : Carries (weak_of old) (weak_of new)
  pub parallel : AreParallel (weak_of new)

-- the name of a gray cell of a group
pub record IsGrayHere (h : HeapState) (g : ZoneSet) (x : Name) : Type 0 where
  pub place : Place
  pub named : name_at h.shape place ≡ Some x
  pub here : HasZone g.bits (zone_of h.shape place)
  pub gray : IsGray h place

-- the current group has ended: only the heap and the groups are not as they were
pub record EndsIn (c : CollectorState) (g : ZoneSet) (rest : List ZoneSet) (d : CollectorState) : Type 0 where
  pub heap : IsEnded c.heap g d.heap
  pub stack_is : d.stack ≡ c.stack
  pub lists_is : d.lists ≡ c.lists
  pub groups_is : d.groups ≡ rest
  pub run_is : d.run ≡ c.run

-- exactly the arenas that are handed to sweeping are in flight, with the bits that they had then
abbrev pub AreJustFlown : Shape → (ℕ → Option Bits) → Type 0
AreJustFlown s flown = (a : ℕ) → flown a ≡ out_of s a

-- a cell is white, in a zone of a group
abbrev pub IsWhiteHere : HeapState → ZoneSet → Place → Type 0
IsWhiteHere h g p = (in_zones g.bits (zone_of h.shape p) ≡ true) × IsWhite h p

-- the cells of weak entries are present, and an entry whose value dies with a group has a map or a key that does
pub record DieWithOwners (h : HeapState) (g : ZoneSet) : Type 0 where
  pub present : (m k v : Place) → HasEntry h.shape m k v → IsPresent h.shape m × IsPresent h.shape k
      × IsPresent h.shape v
  pub owned : (m k v : Place) → HasEntry h.shape m k v → IsWhiteHere h g v
      → IsWhiteHere h g m ⊎ IsWhiteHere h g k

-- wrappers of a group and entries that name a cell which is not present are dropped, weak slots that name one become
-- empty, and it is watched no longer; the other entries are to be looked at as they were
pub record DropsDead (old : HeapState) (g : ZoneSet) (new : HeapState) : Type 0 where
  pub rest : new ≡ record old {
    shape = record old.shape { wrappers = new.shape.wrappers; weak = new.shape.weak };
    looks = new.looks;
    weak_names = without_dead_names (is_absent old.shape) old.weak_names;
  }
  pub apart : AreApart old.shape.wrappers.lists
  pub wrappers : (z : ℕ) → list_of new.shape.wrappers z ≡ without_dead (bit_at g.bits z) (is_absent old.shape)
      (list_of old.shape.wrappers z)
  pub entries : IsWithoutDead (is_absent old.shape) old.shape.weak new.shape.weak
  pub rows : KeepsRows old.shape.weak new.shape.weak
  pub sound : AreEntries new.shape.weak
  pub carries : Carries (weak_of old) (weak_of new)
  pub parallel : AreParallel (weak_of new)

-- the zones of a group are swept, or are finished where they have no arena
pub record EndsZones (old : HeapState) (g : ZoneSet) (new : HeapState) : Type 0 where
  pub sized : length new.shape.states ≡ length old.shape.states
  pub others : (z : ℕ) → (HasZone g.bits z → ⊥) → state_in new.shape z ≡ state_in old.shape z
  pub swept : (a : ℕ) → IsSome (out_of new.shape a) → (z : ℕ) → HasZone g.bits z → state_in new.shape z ≡ state.Sweep
  pub finished : ((a : ℕ) → out_of new.shape a ≡ None) → (z : ℕ) → HasZone g.bits z
      → state_in new.shape z ≡ state.Finished
