-- The world that a collector stands for.
use Rattle.std.specs.Prelude.{◌≡◌, ◌≢◌, ◌⊎◌, ◌↔◌, ◌<◌, ◌≤◌, ◌*◌, ℕ, true, false, if◌then◌else◌, List, [], ◌∷◌, length}
use Rattle.std.specs.Prelude.{map}
use Rattle.std.specs.Prelude.{Option, Some, None, IsSome, Contains, slice_get}
use Rattle.gz_names.specs.Zones.{HasZone, zones_in}
use Rattle.gz_names.specs.declared.names.Name.{Name}
use Rattle.gz_names.specs.declared.numbers.Place.{Place}
use Rattle.gz_names.specs.declared.zone_sets.ZoneSet.{ZoneSet}
use Rattle.cell_bits.specs.declared.bits.Bits.{Bits}
use Rattle.cell_bits.specs.declared.bits.Colour.TheVariants as colour
use Rattle.zones.specs.declared.states.State.TheVariants as state
use Rattle.weak_maps.specs.Delegates.{DelegateRow}
use Rattle.weak_maps.specs.WeakMaps.{LooksState, NoneLeft}
use Rattle.weak_maps.specs.declared.colours.MarkColour.{MarkColour}
use Rattle.weak_maps.specs.declared.colours.MarkColour.TheVariants as mark
use Rattle.weak_maps.specs.declared.entries.WeakEntry.{WeakEntry}
use Rattle.gray_lists.specs.Incoming.{Incoming, list_of as waiting_for}
use Rattle.zone_edges.specs.Groups.{Edge}
use Rattle.zone_edges.specs.Looks.{AreLeftBlack, IsKey, IsLookedAt}
use Rattle.colour_defs.specs.World.{Collection, Has, IsSettled, Preparation, World}
use Rattle.colour_defs.specs.Groups.{IsFirstEdge}
use Rattle.heap_core.specs.Shape.{HasEdge, IsPresent, Shape, is_marking, is_marking_state, name_at, out_of}
use Rattle.heap_core.specs.Shape.{state_in, state_of, zone_of}
use Rattle.mark_stack.specs.Stack.{Piles, no_places}
use Rattle.heap_core.specs.Heap.{HeapState, colour_of}
use Rattle.barriers.specs.Colours.{IsBlack}
use Rattle.barriers.specs.Invariant.{MarkingInvariant}
use Rattle.barriers.specs.LeftOut.{Counts, PreparingInvariant}
use Rattle.barriers.specs.PendingLive.{GrayInvariant, buffer_of}
use Rattle.slice_driver.specs.Collector.{CollectorState, RunState, heap_with}
use Rattle.slice_driver.specs.declared.collector.Uncleared.{Uncleared}
use Rattle.slice_driver.specs.Worlds.{AreRowsAtHome, IsInFlight, IsUnswept, LiesIn}
use Rattle.slice_driver.specs.Closures.{AreBlack, AreTied}

-- no collection runs: every zone is in no collection, and nothing is left of one
pub record IsIdle (c : CollectorState) : Type 0 where
  pub states : (z : ℕ) → state_in c.heap.shape z ≡ state.NoGC
  pub kept : (a : ℕ) → out_of c.heap.shape a ≡ None
  pub black : c.stack.black ≡ []
  pub gray : c.stack.gray ≡ []

-- no weak entry is to be looked at
abbrev pub NothingLeft : LooksState → Type 0
NothingLeft looks = NoneLeft mark.Gray looks × NoneLeft mark.Black looks

-- a present cell of a marking zone
abbrev pub IsOfMarking : Shape → Place → Type 0
IsOfMarking s p = IsPresent s p × (is_marking s p ≡ true)

-- those that are to be looked at for this place of theirs have it in a marking zone
pub record AreOfMarking {E : Type 0} (place_of : E → Place) (s : Shape) (entries : List E)
    (looks : List (Option MarkColour)) : Type 0 where
  pub each : (n : ℕ) (entry : E) (c : MarkColour) → slice_get entries n ≡ Some entry
      → slice_get looks n ≡ Some (Some c) → IsOfMarking s (place_of entry)

-- each weak entry that is to be looked at has the map, the key or the delegate for which it is in a marking zone
pub record LooksOfMarking (s : Shape) (looks : LooksState) : Type 0 where
  pub maps : AreOfMarking (λ (entry : WeakEntry). entry.map) s s.weak.entries looks.by_map
  pub keys : AreOfMarking (λ (entry : WeakEntry). entry.key) s s.weak.entries looks.by_key
  pub rows : AreOfMarking (λ (row : DelegateRow). row.target) s s.weak.delegates.rows looks.by_delegate

-- only for marking zones does anything wait: cells for a zone's gray marking, wrappers for a compartment of a zone, and
-- weak entries to be looked at; and on the gray pile are cells of zones that take gray
pub record WaitsWhileMarking (h : HeapState) (p : Piles) (lists : Incoming) : Type 0 where
  pub piled : (x : Place) → Contains p.gray x → state_of h.shape x ≡ state.MarkBlackAndGray
  pub buffered : (z : ℕ) → is_marking_state (state_in h.shape z) ≡ false → buffer_of h z ≡ []
  pub incoming : (n : ℕ) (x : Place) → Contains (waiting_for lists n) x
      → (z : ℕ) × (slice_get h.shape.comps n ≡ Some z) × (is_marking_state (state_in h.shape z) ≡ true)
  pub looks : ((z : ℕ) → is_marking_state (state_in h.shape z) ≡ false) → NothingLeft h.looks
  pub of_marking : LooksOfMarking h.shape h.looks

-- a zone is in one of the groups
abbrev pub IsInGroups : List ZoneSet → ℕ → Type 0
IsInGroups groups z = (g : ZoneSet) × Contains groups g × HasZone g.bits z

-- the current group: none while groups are not formed
abbrev pub IsCurrent : List ZoneSet → ℕ → Type 0
IsCurrent [] z = ⊥
IsCurrent (g ∷ gs) z = HasZone g.bits z

-- how far the zones of a collection are
pub record AreInStates (c : CollectorState) (r : RunState) : Type 0 where
  pub outside : (z : ℕ) → (HasZone r.zones.bits z → ⊥) → state_in c.heap.shape z ≡ state.NoGC
  pub made : (z : ℕ) → HasZone r.zones.bits z → z < length c.heap.shape.states
  pub early : r.formed ≡ false → (z : ℕ) → HasZone r.zones.bits z → state_in c.heap.shape z ≡ state.MarkBlackOnly
  pub later : r.formed ≡ true → (z : ℕ) → IsInGroups c.groups z → (state_in c.heap.shape z ≡ state.MarkBlackOnly)
      ⊎ (IsCurrent c.groups z × (state_in c.heap.shape z ≡ state.MarkBlackAndGray))
  pub ended : r.formed ≡ true → (z : ℕ) → HasZone r.zones.bits z → (IsInGroups c.groups z → ⊥)
      → (state_in c.heap.shape z ≡ state.Sweep) ⊎ (state_in c.heap.shape z ≡ state.Finished)
  pub sweeping : (z a : ℕ) (p : Place) → p.0 ≡ a → zone_of c.heap.shape p ≡ z → IsSome (out_of c.heap.shape a)
      → state_in c.heap.shape z ≡ state.Sweep
  pub swept : ((a : ℕ) → out_of c.heap.shape a ≡ None) → (z : ℕ) → state_in c.heap.shape z ≢ state.Sweep

-- a wrapper leads from one zone of a collection to another
pub record LeadsAcross (s : Shape) (r : RunState) (p q : Place) : Type 0 where
  pub edge : HasEdge s p q
  pub from : HasZone r.zones.bits (zone_of s p)
  pub to : HasZone r.zones.bits (zone_of s q)
  pub apart : zone_of s p ≢ zone_of s q

-- before the groups are formed: only first edges are noted, and each wrapper that was looked at leads to a black cell
-- or has its edge noted; once a zone had its grouping step, so does each other wrapper lead to a black cell
pub record AreLookedAt (h : HeapState) (c : CollectorState) (r : RunState) (w : World) (k : Collection) : Type 0 where
  pub zones_are : c.edges.zones ≡ r.zones
  pub first : (a b : ℕ) → Edge c.edges.sources a b → IsFirstEdge w k a b
  pub looked : (p q : Place) → LeadsAcross h.shape r p q → IsLookedAt h.shape c.edges p
      → IsBlack h q ⊎ (Edge c.edges.sources (zone_of h.shape p) (zone_of h.shape q)
      × (IsKey h.shape p → IsBlack h p ⊎ Edge c.edges.sources (zone_of h.shape q) (zone_of h.shape p)))
  pub left_black : (c.edges.stepped.bits ≡ 0) ⊎ AreLeftBlack h c.edges

-- the collection that runs, whose marking has begun
pub record Runs (h : HeapState) (c : CollectorState) (w : World) (r : RunState) (k : Collection) : Type 0 where
  pub started : r.clearing ≡ None
  pub zones_are : k.zones ≡ zones_in r.zones
  pub marking_are : (z : ℕ) → Contains k.marking z ↔ (is_marking_state (state_in c.heap.shape z) ≡ true)
  pub groups_are : k.groups ≡ (if r.formed then Some (map zones_in c.groups) else None)
  pub states : AreInStates c r
  pub tied : (z : ℕ) → Contains k.marking z → AreTied h c.stack c.lists w k
  pub early : r.formed ≡ false → AreLookedAt h c r w k

abbrev pub RunsAs : HeapState → CollectorState → World → Option RunState → Option Collection → Type 0
RunsAs h c w None None = IsIdle c
RunsAs h c w None (Some k) = ⊥
RunsAs h c w (Some r) None = ⊥
RunsAs h c w (Some r) (Some k) = Runs h c w r k

-- where cells lie: each at its place in the world; what is delayed is told among what is pending; and the rows of weak
-- entries tell the zones of their keys
pub record IsPlaced (h : HeapState) (w : World) : Type 0 where
  pub delayed : h.delayed ≡ no_places
  pub lies : LiesIn h w
  pub homes : AreRowsAtHome h.shape

-- what is being swept: exactly the arenas that are handed out are in flight, and what is not swept yet has no second
-- place
pub record IsBeingSwept (s : Shape) (flown : ℕ → Option Bits) : Type 0 where
  pub apart : (x : Name) (p q : Place) → IsUnswept s p x → IsUnswept s q x → p ≡ q
  pub flies : IsInFlight s flown

-- colours, and what waits for marking
pub record IsColoured (h : HeapState) (p : Piles) (lists : Incoming) : Type 0 where
  pub marks : MarkingInvariant h p
  pub gray : GrayInvariant h p lists
  pub waits : WaitsWhileMarking h p lists

-- how far the world is where nothing is being prepared: what is black where no zone is marking, and the collection
-- that runs
pub record IsInPhase (h : HeapState) (c : CollectorState) (w : World) : Type 0 where
  pub calm : w.preparing ≡ None
  pub black : IsSettled w → AreBlack h w
  pub runs : RunsAs h c w c.run w.collection

-- a collector stands for a world in which nothing is being prepared, with these bits in flight. Its parts by what
-- changes them: commands that make or drop a cell, and arenas that come in, change where cells lie; sweeping changes
-- what is being swept; marking and barriers change colours; and what goes on with a collection changes the phase
pub record RepresentsMarking (c : CollectorState) (flown : ℕ → Option Bits) (w : World) : Type 0 where
  pub placed : IsPlaced c.heap w
  pub swept : IsBeingSwept c.heap.shape flown
  pub coloured : IsColoured (heap_with c flown) c.stack c.lists
  pub phase : IsInPhase (heap_with c flown) c w

-- nothing waits for marking: no cell is pending, none is buffered, no wrapper waits for a compartment, and no weak
-- entry is to be looked at
pub record NothingWaits (h : HeapState) (p : Piles) (lists : Incoming) : Type 0 where
  pub pending : p ≡ no_places
  pub buffered : (z : ℕ) → buffer_of h z ≡ []
  pub incoming : (n : ℕ) → waiting_for lists n ≡ []
  pub looks : NothingLeft h.looks

-- colours while these zones are being prepared: those of other zones count; in these the cells of arenas that were
-- cleared, or that came since, are white; and nothing waits for marking, for which the lists have room
pub record IsCleared (h : HeapState) (p : Piles) (lists : Incoming) (zones : ZoneSet) (u : Uncleared) : Type 0 where
  pub invariant : PreparingInvariant h p
  pub cleared : (x : Place) → HasZone zones.bits (zone_of h.shape x) → (x.0 < u.from) ⊎ (u.end ≤ x.0)
      → colour_of h x ≡ colour.White
  pub within : u.end ≤ length h.shape.arenas
  pub waits : NothingWaits h p lists
  pub room : 64 * length h.colours ≤ lists.room

-- how far the world is while zones are being prepared: exactly these are, and what is black in others is what it has
-- black
pub record IsInPreparation (h : HeapState) (w : World) (zones : ZoneSet) : Type 0 where
  pub preparation : Preparation
  pub preparing_is : w.preparing ≡ Some preparation
  pub none_running : w.collection ≡ None
  pub zones_are : preparation.zones ≡ zones_in zones
  pub some : (z : ℕ) × HasZone zones.bits z
  pub made : (z : ℕ) → HasZone zones.bits z → z < length h.shape.states
  pub inside : (z : ℕ) → HasZone zones.bits z → state_in h.shape z ≡ state.Prepare
  pub outside : (z : ℕ) → (HasZone zones.bits z → ⊥) → state_in h.shape z ≡ state.NoGC
  pub black : (x : Name) (p : Place) → name_at h.shape p ≡ Some x → Counts h.shape p → Has w.black x ↔ IsBlack h p

-- a collector stands for a world in which a collection is being prepared: no arena is out, so all bits are the heap's
pub record RepresentsPreparing (c : CollectorState) (flown : ℕ → Option Bits) (w : World) : Type 0 where
  pub run : RunState
  pub run_is : c.run ≡ Some run
  pub uncleared : Uncleared
  pub clearing : run.clearing ≡ Some uncleared
  pub unformed : run.formed ≡ false
  pub placed : IsPlaced c.heap w
  pub swept : IsBeingSwept c.heap.shape flown
  pub none_out : (a : ℕ) → out_of c.heap.shape a ≡ None
  pub cleared : IsCleared c.heap c.stack c.lists run.zones uncleared
  pub phase : IsInPreparation c.heap w run.zones

-- a collector stands for a world, with these bits in flight
pub data Represents (c : CollectorState) (flown : ℕ → Option Bits) (w : World) : Type 0 where
  going : RepresentsMarking c flown w → Represents c flown w
  prepared : RepresentsPreparing c flown w → Represents c flown w
