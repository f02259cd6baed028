-- A step that leaves the world as it is.
use Rattle.std.specs.Prelude.{◌≡◌, ◌≢◌, ◌⊎◌, ◌↔◌, ℕ, true, false, length, None, Option, Some, slice_get}
use Rattle.gz_names.specs.declared.numbers.Place.{Place}
use Rattle.cell_bits.specs.declared.bits.Bits.{Bits}
use Rattle.weak_maps.specs.Entries.{Starts}
use Rattle.weak_maps.specs.declared.colours.MarkColour.{MarkColour}
use Rattle.weak_maps.specs.declared.colours.MarkColour.TheVariants as mark
use Rattle.weak_maps.specs.declared.entries.WeakEntry.{WeakEntry}
use Rattle.zones.specs.declared.states.State.{State}
use Rattle.zones.specs.declared.states.State.TheVariants as state
use Rattle.colour_defs.specs.World.{World, Collection}
use Rattle.heap_core.specs.Shape.{IsDelegate, state_in, zone_of}
use Rattle.zone_edges.specs.Looks.{AreAllLookedAt}
use Rattle.barriers.specs.Colours.{IsBlack}
use Rattle.barriers.specs.Reached.{HasEntry}
use Rattle.barriers.specs.WeakPoint.{left_of}
use Rattle.barriers.specs.PendingBlack.{PendingBlack}
use Rattle.barriers.specs.PendingLive.{PendingLive}
use Rattle.heap_core.specs.Heap.{HeapState}
use Rattle.slice_driver.specs.Collector.{CollectorState, RunState, heap_with}
use Rattle.slice_driver.specs.declared.collector.Uncleared.{Uncleared}
use Rattle.slice_driver.specs.Worlds.{IsInFlight}
use Rattle.slice_driver.specs.Represents.{AreLookedAt, IsColoured, IsCurrent, RepresentsMarking}

-- a collection runs, and its groups are formed
abbrev pub IsFormed : CollectorState → Type 0
IsFormed c = (r : RunState) × (c.run ≡ Some r) × (r.formed ≡ true)

-- a collection runs whose marking has begun
abbrev pub IsStarted : CollectorState → Type 0
IsStarted c = (r : RunState) × (c.run ≡ Some r) × (r.clearing ≡ None)

-- a collection is being prepared, and the mark bits of these arenas are still to be cleared
abbrev pub IsPreparing : CollectorState → Uncleared → Type 0
IsPreparing c u = (r : RunState) × (c.run ≡ Some r) × (r.clearing ≡ Some u)

-- a zone's state is as it was, or its gray marking begins: then it is one of the current group
abbrev pub IsStateAfter : CollectorState → ℕ → State → Type 0
IsStateAfter c z t = (t ≡ state_in c.heap.shape z)
    ⊎ (IsFormed c × IsCurrent c.groups z × (state_in c.heap.shape z ≡ state.MarkBlackOnly)
    × (t ≡ state.MarkBlackAndGray))

-- nothing is in the heap but what was, its invariants hold, and as much is left to mark. Black may have spread, also in
-- bits that are in flight
pub record IsQuiet (c : CollectorState) (flown : ℕ → Option Bits) (d : CollectorState) (flying : ℕ → Option Bits) : Type
    0 where
  pub shape_is : d.heap.shape ≡ record c.heap.shape { states = d.heap.shape.states }
  pub made_is : d.heap.made ≡ c.heap.made
  pub weak_names_is : d.heap.weak_names ≡ c.heap.weak_names
  pub delayed_is : d.heap.delayed ≡ c.heap.delayed
  pub run_is : d.run ≡ c.run
  pub groups_is : d.groups ≡ c.groups
  pub sized : length d.heap.shape.states ≡ length c.heap.shape.states
  pub states : (z : ℕ) → IsStateAfter c z (state_in d.heap.shape z)
  pub flies : IsInFlight d.heap.shape flying
  pub coloured : IsColoured (heap_with d flying) d.stack d.lists
  pub darker : (p : Place) → IsBlack (heap_with c flown) p → IsBlack (heap_with d flying) p
  pub black : (p : Place) → PendingBlack (heap_with d flying) d.stack p ↔ PendingBlack (heap_with c flown) c.stack p
  pub live : (p : Place) → PendingLive (heap_with d flying) d.stack d.lists p
      ↔ PendingLive (heap_with c flown) c.stack c.lists p

-- in a world that the collector stands for, what was noted before the groups are formed is noted rightly, and each
-- wrapper that was looked at is accounted for
abbrev pub KeepsLooks : World → CollectorState → (ℕ → Option Bits) → CollectorState → (ℕ → Option Bits) → Type 0
KeepsLooks w c flown d flying = (r : RunState) (k : Collection) → RepresentsMarking c flown w → c.run ≡ Some r
    → w.collection ≡ Some k → r.formed ≡ false → AreLookedAt (heap_with c flown) c r w k
    → AreLookedAt (heap_with d flying) d r w k

-- no edge more is noted and no wrapper more was looked at, and no zone had its grouping step but where each
-- wrapper was looked at
pub record HasSameLooks (c d : CollectorState) : Type 0 where
  pub zones_are : d.edges.zones ≡ c.edges.zones
  pub sources_are : d.edges.sources ≡ c.edges.sources
  pub cursors_are : d.edges.cursors ≡ c.edges.cursors
  pub stepped : (d.edges.stepped ≡ c.edges.stepped) ⊎ AreAllLookedAt c.heap.shape c.edges

-- the entries of each black map of a zone whose keys are wrappers are to be looked at in gray for their maps; those
-- that were to be looked at still are, and no look came but for black maps of the zone
pub record QueuesBlackMaps (h : HeapState) (zone : ℕ) (k : HeapState) : Type 0 where
  pub left : (m q v d : Place) → HasEntry h.shape m q v → IsDelegate h.shape q d → zone_of h.shape m ≡ zone
      → IsBlack h m → left_of k mark.Gray m q
  pub kept : (a : MarkColour) (m q : Place) → left_of h a m q → left_of k a m q
  pub sized : length k.looks.by_map ≡ length h.looks.by_map
  pub by_map : (n : ℕ) (entry : WeakEntry) → slice_get h.shape.weak.entries n ≡ Some entry
      → (slice_get k.looks.by_map n ≡ slice_get h.looks.by_map n)
      ⊎ ((zone_of h.shape entry.map ≡ zone) × IsBlack h entry.map)
  pub by_key : k.looks.by_key ≡ h.looks.by_key
  pub by_delegate : k.looks.by_delegate ≡ h.looks.by_delegate

-- the entries of a map are to be looked at in gray for it, if it is black
abbrev pub QueuesIfBlack : HeapState → Place → HeapState → Type 0
QueuesIfBlack h m k = (IsBlack h m × (k ≡ record h { looks = record h.looks { by_map = k.looks.by_map } })
    × Starts (λ (entry : WeakEntry). entry.map) mark.Gray m h.shape.weak.entries h.looks.by_map k.looks.by_map)
    ⊎ ((IsBlack h m → ⊥) × (k ≡ h))

-- gray marking of one zone of the current group begins: the entries of its black maps are to be looked at
pub record BeginsZone (c : CollectorState) (zone : ℕ) (d : CollectorState) : Type 0 where
  pub formed : IsFormed c
  pub current : IsCurrent c.groups zone
  pub was : state_in c.heap.shape zone ≡ state.MarkBlackOnly
  pub now : state_in d.heap.shape zone ≡ state.MarkBlackAndGray
  pub others : (z : ℕ) → z ≢ zone → state_in d.heap.shape z ≡ state_in c.heap.shape z
  pub sized : length d.heap.shape.states ≡ length c.heap.shape.states
  pub heap_is : d.heap ≡ record c.heap {
    shape = record c.heap.shape { states = d.heap.shape.states };
    looks = d.heap.looks;
  }
  pub queued : QueuesBlackMaps c.heap zone d.heap
  pub stack_is : d.stack ≡ c.stack
  pub lists_is : d.lists ≡ c.lists
  pub edges_is : d.edges ≡ c.edges
  pub groups_is : d.groups ≡ c.groups
  pub run_is : d.run ≡ c.run
