-- What the steps of a unit do, and what they find done.
use Rattle.std.specs.Prelude.{◌≡◌, ◌↔◌, ◌<◌, ◌≤◌, ◌+◌, ◌⊎◌, ℕ, Bool, true, false, List, [], Option, None, Some, IsSome}
use Rattle.std.specs.Prelude.{is_some, if◌then◌else◌, slice_get}
use Rattle.std.specs.Int.{bit_at}
use Rattle.gz_names.specs.Zones.{HasZone}
use Rattle.gz_names.specs.declared.numbers.Place.{Place}
use Rattle.gz_names.specs.declared.replies.Report.{Report}
use Rattle.gz_names.specs.declared.zone_sets.ZoneSet.{ZoneSet}
use Rattle.cell_bits.specs.declared.bits.Bits.{Bits}
use Rattle.cell_bits.specs.declared.jobs.Job.{Job}
use Rattle.colour_defs.specs.World.{World}
use Rattle.weak_maps.specs.WeakMaps.{NoneLeft}
use Rattle.weak_maps.specs.declared.colours.MarkColour.TheVariants as mark
use Rattle.heap_core.specs.Shape.{IsDelegate, is_marking, out_of, zone_of}
use Rattle.barriers.specs.Reached.{HasEntry}
use Rattle.barriers.specs.Colours.{IsBlack, IsSeen}
use Rattle.marker.specs.GrayBits.{AreGraying}
use Rattle.marker.specs.Units.{IsGrayIdle}
use Rattle.zone_edges.specs.Looks.{AreAllLookedAt}
use Rattle.slice_driver.specs.Collector.{CollectorState, RunState, heap_with}
use Rattle.slice_driver.specs.UnitsToCome.{units_to_come}
use Rattle.slice_driver.specs.Left.{units_left}
use Rattle.slice_driver.specs.Quiet.{IsFormed}
use Rattle.slice_driver.specs.Remaining.{clearing_left}
use Rattle.slice_driver.specs.Represents.{Represents}
use Rattle.slice_driver.specs.declared.collector.Uncleared.{Uncleared}
use Rattle.slice_driver.specs.Units.{AreJobs, DoesUnit, EndsColoured, HandsJobs, IsSoundMarking, KeepsFreedWords}
use Rattle.slice_driver.specs.Units.{flying_after}
use Rattle.slice_driver.specs.Units.{is_group_end, is_start, jobs_at, reports_of}

-- a unit with these reports was done, which hands out no arena and takes none in; the collection goes on, and less is
-- left of it
pub record GoesOn (c : CollectorState) (flown : ℕ → Option Bits) (reports : List Report) (d : CollectorState)
    (flying : ℕ → Option Bits) : Type 0 where
  pub done : DoesUnit c flown reports d flying
  pub words : KeepsFreedWords c.heap.shape d.heap.shape
  pub running : IsSome d.run
  pub made_is : d.heap.made ≡ c.heap.made
  pub ledger_is : d.heap.ledger ≡ c.heap.ledger
  pub weak_is : d.heap.shape.weak ≡ c.heap.shape.weak
  pub less : units_left d flying < units_left c flown
  pub to_come : units_to_come d flying < units_to_come c flown

-- nothing was done: the collector is as it was, and so are all colours, also those in flight
pub record IsStill (c : CollectorState) (flown : ℕ → Option Bits) (d : CollectorState) (flying : ℕ → Option Bits) : Type
    0 where
  pub same : d ≡ c
  pub colours : heap_with c flying ≡ heap_with c flown
  pub worlds : (w : World) → Represents c flown w → Represents c flying w

-- a step had work and did a unit that reports nothing, or it found nothing to do
abbrev pub DidOrStill : Bool → Type 0 → CollectorState → (ℕ → Option Bits) → CollectorState → (ℕ → Option Bits) → Type 0
DidOrStill true found c flown d flying = GoesOn c flown [] d flying × (found → ⊥)
DidOrStill false found c flown d flying = IsStill c flown d flying × found

-- a step of the gray marking of a group had work and did a unit, or it found nothing to do; the shape of the heap and
-- the groups are as they were
pub record TriesGroup (did : Bool) (found : Type 0) (c : CollectorState) (flown : ℕ → Option Bits) (d : CollectorState)
    (flying : ℕ → Option Bits) : Type 0 where
  pub done : DidOrStill did found c flown d flying
  pub shape : d.heap.shape ≡ c.heap.shape
  pub groups : d.groups ≡ c.groups

-- the weak rule adds no black cell in a marking zone, nor any key
pub record IsBlackFixed (c : CollectorState) (flown : ℕ → Option Bits) : Type 0 where
  pub values : (m k v : Place) → HasEntry c.heap.shape m k v → IsBlack (heap_with c flown) m
      → IsBlack (heap_with c flown) k → is_marking c.heap.shape v ≡ true → IsBlack (heap_with c flown) v
  pub keys : (m k v d : Place) → HasEntry c.heap.shape m k v → IsDelegate c.heap.shape k d
      → IsBlack (heap_with c flown) m → IsBlack (heap_with c flown) d → IsBlack (heap_with c flown) k

-- black marking has nothing left to do: no cell is to be scanned in black, and no entry to be looked at
pub record IsBlackDone (c : CollectorState) (flown : ℕ → Option Bits) : Type 0 where
  pub pile : c.stack.black ≡ []
  pub looked : NoneLeft mark.Black c.heap.looks

-- a collection runs whose marking has begun, and its groups are not formed
abbrev pub IsGrouping : CollectorState → Type 0
IsGrouping c = (r : RunState) × (c.run ≡ Some r) × (r.formed ≡ false) × (r.clearing ≡ None)

-- a unit before the groups are formed: each wrapper was looked at, or one more was
abbrev pub LooksOrAll : Bool → CollectorState → CollectorState → Type 0
LooksOrAll true c d =
    (flown : ℕ → Option Bits) → IsSoundMarking c flown → IsBlackDone c flown → GoesOn c flown [] d flown
LooksOrAll false c d = AreAllLookedAt c.heap.shape c.edges × (d ≡ c)

-- the weak rule adds no gray cell in a group, neither a value nor a key
pub record IsGrayFixed (c : CollectorState) (flown : ℕ → Option Bits) (g : ZoneSet) : Type 0 where
  pub values : (m k v : Place) → HasEntry c.heap.shape m k v → IsSeen (heap_with c flown) m
      → IsSeen (heap_with c flown) k → HasZone g.bits (zone_of c.heap.shape v) → IsSeen (heap_with c flown) v
  pub keys : (m k v d : Place) → HasEntry c.heap.shape m k v → IsDelegate c.heap.shape k d
      → IsSeen (heap_with c flown) m → IsSeen (heap_with c flown) d → HasZone g.bits (zone_of c.heap.shape k)
      → IsSeen (heap_with c flown) k

-- the gray marking of a group has nothing left to do
pub record IsGrayDone (c : CollectorState) (flown : ℕ → Option Bits) (g : ZoneSet) : Type 0 where
  pub idle : IsGrayIdle c.heap c.stack c.lists g.bits
  pub looked : NoneLeft mark.Gray c.heap.looks

-- a unit of the grouping with this report goes on with the collection, whose groups are not formed
pub record IsGroupingUnit (c : CollectorState) (said : Option Report) (d : CollectorState) : Type 0 where
  pub unformed : IsFormed c → ⊥
  pub goes_on : is_group_end said ≡ false
  pub no_start : is_start said ≡ false
  pub goes : (flown : ℕ → Option Bits) → IsSoundMarking c flown → IsBlackDone c flown
      → GoesOn c flown (reports_of said false) d flown

-- the zones of the current group have begun their gray marking, and no others
abbrev pub HasBegun : CollectorState → Type 0
HasBegun c = (g : ZoneSet) → slice_get c.groups 0 ≡ Some g → AreGraying c.heap.shape g.bits

-- a zone of the current group began, which had not, or all have
abbrev pub BeginsOrBegun : Bool → CollectorState → CollectorState → Type 0
BeginsOrBegun true c d =
    ((flown : ℕ → Option Bits) → IsSoundMarking c flown → GoesOn c flown [] d flown) × (HasBegun c → ⊥)
BeginsOrBegun false c d = HasBegun c × (d ≡ c)

-- the gray marking of the current group has nothing left to do
abbrev pub IsGroupDone : CollectorState → (ℕ → Option Bits) → Type 0
IsGroupDone c flown = (g : ZoneSet) → slice_get c.groups 0 ≡ Some g → IsGrayDone c flown g

-- what holds of the groups of a collection that runs: they are words of zones, and once they are formed one is left, or
-- an arena is out
pub record HasGroups (c : CollectorState) : Type 0 where
  pub small : (g : ZoneSet) → slice_get c.groups 0 ≡ Some g → (z : ℕ) → bit_at g.bits z ≡ 1 → z < 64
  pub more : IsFormed c → ((a : ℕ) → out_of c.heap.shape a ≡ None) → c.groups ≡ [] → ⊥

-- the first four steps of a unit have no work: black marking is done, the groups are formed, the zones of the current
-- group have begun their gray marking, and that is done
pub record IsResting (c : CollectorState) (flown : ℕ → Option Bits) : Type 0 where
  pub black : IsBlackDone c flown
  pub formed : IsFormed c
  pub begun : HasBegun c
  pub group : IsGroupDone c flown

-- the first five steps have no work: those rest, and no arena is out
abbrev pub IsAtGroupEnd : CollectorState → (ℕ → Option Bits) → Type 0
IsAtGroupEnd c flown = IsResting c flown × ((a : ℕ) → out_of c.heap.shape a ≡ None)

-- a collection is being prepared, and no arena is left to be cleared
pub record IsAtStart (c : CollectorState) : Type 0 where
  pub run : RunState
  pub run_is : c.run ≡ Some run
  pub uncleared : Uncleared
  pub clearing : run.clearing ≡ Some uncleared
  pub cleared : clearing_left c.heap.shape c.run ≡ 0

-- memory may be wanted: marking is to begin, or a group is to end
abbrev pub MayWantMemory : CollectorState → (ℕ → Option Bits) → Type 0
MayWantMemory c flown = IsAtStart c ⊎ IsAtGroupEnd c flown

-- no unit that reports nothing is left: no arena is to be cleared; black marking is done; before the groups are formed
-- each wrapper was looked at, and after that the zones of the current group have begun their gray marking, and that is
-- done
pub record IsQuietDone (c : CollectorState) (flown : ℕ → Option Bits) : Type 0 where
  pub cleared : clearing_left c.heap.shape c.run ≡ 0
  pub black : IsBlackDone c flown
  pub looked : IsGrouping c → AreAllLookedAt c.heap.shape c.edges
  pub begun : IsFormed c → HasBegun c
  pub group : IsFormed c → IsGroupDone c flown

-- a unit was done that reports nothing, or there is none to do
abbrev pub QuietOrNone : Bool → CollectorState → (ℕ → Option Bits) → CollectorState → (ℕ → Option Bits) → Type 0
QuietOrNone true c flown d flying = GoesOn c flown [] d flying
QuietOrNone false c flown d flying = IsStill c flown d flying × IsQuietDone c flown

-- this number of units were done that report nothing: the worlds are as they were, and each unit lowered what is left
-- and what is to come
pub record DoesQuietUnits (n : ℕ) (c : CollectorState) (flown : ℕ → Option Bits) (d : CollectorState)
    (flying : ℕ → Option Bits) : Type 0 where
  pub none : n ≡ 0 → IsStill c flown d flying
  pub some : 0 < n → GoesOn c flown [] d flying
  pub less : units_left d flying + n ≤ units_left c flown
  pub to_come : units_to_come d flying + n ≤ units_to_come c flown

-- units that report nothing were done, at most a limit of them: fewer only where none is left, and none where the first
-- four steps of a unit had no work
pub record DoesQuietly (limit : ℕ) (c : CollectorState) (flown : ℕ → Option Bits) (n : ℕ) (d : CollectorState)
    (flying : ℕ → Option Bits) : Type 0 where
  pub most : n ≤ limit
  pub done : DoesQuietUnits n c flown d flying
  pub rests : n < limit → IsQuietDone d flying
  pub resting : IsResting c flown → n ≡ 0

-- what a unit reports, in a place that held something else: where it reports nothing, that stays
abbrev pub place_of : Option Report → Option Report → Option Report
place_of said before = if is_some said then said else before

-- a unit of the grouping was done, and what it reports was put into its place
pub record TellsGrouping (c : CollectorState) (before : Option Report) (reported : Bool) (d : CollectorState)
    (now : Option Report) : Type 0 where
  pub said : Option Report
  pub reported_is : reported ≡ is_some said
  pub now_is : now ≡ place_of said before
  pub done : IsGroupingUnit c said d

-- the current group ended, whatever is in flight: a unit with this report was done, which handed these arenas to
-- sweeping, and with which the collection is over or not
pub record EndsGroup (handed : Option (List Job)) (over : Bool) (report : Option Report) (c d : CollectorState)
    : Type 0 where
  pub done : (flown : ℕ → Option Bits) → DoesUnit c flown (reports_of report over) d (flying_after handed flown)
  pub handed_are : AreJobs handed (jobs_at report c.heap)
  pub jobs : HandsJobs handed c.heap.shape d.heap.shape
  pub coloured : (flown : ℕ → Option Bits) → EndsColoured report c flown d.heap.colours
  pub ended : is_group_end report ≡ true
  pub left : (flown : ℕ → Option Bits) → IsSoundMarking c flown
      → units_left d (flying_after handed flown) < units_left c flown
  pub to_come : (flown : ℕ → Option Bits) → IsSoundMarking c flown
      → units_to_come d (flying_after handed flown) < units_to_come c flown
  pub finished : (over ≡ true) ↔ (d.run ≡ None)
