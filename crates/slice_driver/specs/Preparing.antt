-- The units that prepare a collection, and the one that begins its marking.
use Rattle.std.specs.Prelude.{◌≡◌, ◌≢◌, ◌<◌, ◌≤◌, ◌+◌, ℕ, None, Option, Some, false, length, true}
use Rattle.gz_names.specs.declared.numbers.Place.{Place}
use Rattle.gz_names.specs.declared.zone_sets.ZoneSet.{ZoneSet}
use Rattle.cell_bits.specs.declared.bits.Bits.{Bits}
use Rattle.colour_defs.specs.World.{World}
use Rattle.colour_defs.specs.Lawful.{Begins}
use Rattle.colour_defs.specs.Laws.{IsValid}
use Rattle.gz_names.specs.Zones.{zones_in}
use Rattle.heap_core.specs.Heap.{HeapState, colour_of}
use Rattle.heap_core.specs.Shape.{is_owned}
use Rattle.cell_bits.specs.declared.bits.Colour.TheVariants as colour
use Rattle.slice_driver.specs.declared.collector.Uncleared.{Uncleared}
use Rattle.slice_driver.specs.Collector.{CollectorState, RunState}
use Rattle.slice_driver.specs.Left.{units_left}
use Rattle.slice_driver.specs.Represents.{Represents}
use Rattle.slice_driver.specs.Units.{StartsWithin}

-- the lowest arena that is still to be cleared
pub record IsNextUncleared (h : HeapState) (zones : ZoneSet) (u : Uncleared) (arena : ℕ) : Type 0 where
  pub within : (u.from ≤ arena) × (arena < u.end)
  pub owned : is_owned h.shape zones.bits arena ≡ true
  pub lowest : (other : ℕ) → u.from ≤ other → other < arena → is_owned h.shape zones.bits other ≡ false

-- none is left to be cleared
abbrev pub IsAllCleared : HeapState → ZoneSet → Uncleared → Type 0
IsAllCleared h zones u = (other : ℕ) → u.from ≤ other → other < u.end → is_owned h.shape zones.bits other ≡ false

-- an arena was cleared: its cells are white, and it is behind what is still to be cleared
pub record ClearsArena (c : CollectorState) (run : RunState) (u : Uncleared) (arena : ℕ) (d : CollectorState) : Type 0
  where
    pub next : IsNextUncleared c.heap run.zones u arena
    pub rest : d ≡ record c {
      heap = record c.heap { colours = d.heap.colours };
      run = Some (record run { clearing = Some (record u { from = arena + 1 }) });
    }
    pub white : (x : Place) → x.0 ≡ arena → colour_of d.heap x ≡ colour.White
    pub others : (x : Place) → x.0 ≢ arena → colour_of d.heap x ≡ colour_of c.heap x
    pub sized : length d.heap.colours ≡ length c.heap.colours

-- marking of the zones that were prepared began, in each world that the collector stood for, which is valid after it;
-- less is left, and with what is to come then the collection is within its bound on units
pub record StartsMarking (old : CollectorState) (flown : ℕ → Option Bits) (zones : ZoneSet) (new : CollectorState)
    : Type 0 where
  pub begins : (w : World) → IsValid w → Represents old flown w → (v : World) × Begins w (zones_in zones) v × IsValid v
      × Represents new flown v
  pub left : units_left new flown < units_left old flown
  pub within : StartsWithin old flown new flown
  pub run_is : new.run ≡ Some (record { zones = zones; formed = false; clearing = None })
  pub made : new.heap.made ≡ old.heap.made
  pub ledger : new.heap.ledger ≡ old.heap.ledger
  pub weak : new.heap.shape.weak ≡ old.heap.shape.weak
