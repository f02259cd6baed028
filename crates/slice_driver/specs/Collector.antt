-- What a collector is, by the values of its parts.
use Rattle.std.specs.Prelude.{◌≡◌, ◌↔◌, ℕ, Bool, true, false, List, [], Option, Some, None}
use Rattle.gz_names.specs.Zones.{HasZone}
use Rattle.gz_names.specs.declared.zone_sets.ZoneSet.{ZoneSet}
use Rattle.cell_bits.specs.declared.bits.Bits.{Bits}
use Rattle.mark_stack.specs.Stack.{Piles}
use Rattle.gray_lists.specs.Incoming.{Incoming}
use Rattle.zone_edges.specs.Noted.{Noted}
use Rattle.heap_core.specs.Shape.{Shape, out_of}
use Rattle.heap_core.specs.Heap.{HeapState, joined}
use Rattle.slice_driver.specs.declared.collector.Phase.{Phase}
use Rattle.slice_driver.specs.declared.collector.Phase.TheVariants as phase
use Rattle.slice_driver.specs.declared.collector.Uncleared.{Uncleared}

-- the collection that runs: its zones, whether its groups are formed, and, while it is being prepared, the arenas whose
-- mark bits are still to be cleared
pub record RunState : Type 0 where
  pub zones : ZoneSet
  pub formed : Bool
  pub clearing : Option Uncleared

-- stack: what is pending, whether on a pile or delayed, so that the heap has no delayed cells of its own; groups: those
-- that have not ended, the current one first
pub record CollectorState : Type 0 where
  pub heap : HeapState
  pub stack : Piles
  pub lists : Incoming
  pub edges : Noted
  pub groups : List ZoneSet
  pub run : Option RunState

-- the heap of a collector, with the bits that are in flight
abbrev pub heap_with : CollectorState → (ℕ → Option Bits) → HeapState
heap_with c flown = joined c.heap flown

-- the collection that runs, as it is kept
abbrev pub run_of : Phase → Option RunState
run_of phase.Idle = None
run_of (phase.Preparing zones uncleared) = Some (record { zones = zones; formed = false; clearing = Some uncleared })
run_of (phase.Grouping zones ungrouped) = Some (record { zones = zones; formed = false; clearing = None })
run_of (phase.Grouped zones) = Some (record { zones = zones; formed = true; clearing = None })

-- the zones without a grouping step are those of the collection that the search does not know as stepped; there is one
pub record WaitsToGroup (edges : Noted) (zones ungrouped : ZoneSet) : Type 0 where
  pub waiting : (z : ℕ) → HasZone ungrouped.bits z ↔ (HasZone zones.bits z × (HasZone edges.stepped.bits z → ⊥))
  pub some : (z : ℕ) × HasZone ungrouped.bits z

-- a group is left, or an arena is out
abbrev pub HasMore : Shape → List ZoneSet → Type 0
HasMore s groups = groups ≡ [] → ((a : ℕ) → out_of s a ≡ None) → ⊥

-- what is kept besides: till the groups are formed which zones wait for their step, and then that something is left to
-- do
abbrev pub IsKept : Shape → Noted → List ZoneSet → Phase → Type 0
IsKept s edges groups phase.Idle = Unit {0}
IsKept s edges groups (phase.Preparing zones uncleared) = Unit {0}
IsKept s edges groups (phase.Grouping zones ungrouped) = WaitsToGroup edges zones ungrouped
IsKept s edges groups (phase.Grouped zones) = HasMore s groups
