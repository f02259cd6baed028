-- Giving a collection up.
use Rattle.std.specs.Prelude.{◌≡◌, ◌⊎◌, ◌↔◌, ◌≤◌, ◌++◌, ◌∷◌, ℕ, suc, List, [], length, Contains, None, Option}
use Rattle.std.specs.Prelude.{Some, true, false, if◌then◌else◌}
use Rattle.gz_names.specs.Zones.{HasZone, zones_in}
use Rattle.gz_names.specs.declared.numbers.Place.{Place}
use Rattle.gz_names.specs.declared.replies.Report.{Report}
use Rattle.gz_names.specs.declared.replies.Report.TheVariants as report
use Rattle.gz_names.specs.declared.zone_sets.ZoneSet.{ZoneSet}
use Rattle.cell_bits.specs.declared.bits.Bits.{Bits}
use Rattle.colour_defs.specs.World.{World}
use Rattle.colour_defs.specs.Lawful.{Stops}
use Rattle.colour_defs.specs.Laws.{IsValid}
use Rattle.arena_table.specs.Delayed.{places_of}
use Rattle.arena_table.specs.Indexed.{in_zones}
use Rattle.arena_table.specs.Slots.{alloc_word_of, at_bits}
use Rattle.mark_stack.specs.Stack.{Piles}
use Rattle.heap_core.specs.Shape.{ArenaShape, IsPresent, is_marking, out_of, zone_of}
use Rattle.heap_core.specs.Heap.{HeapState, colour_of, joined}
use Rattle.barriers.specs.Colours.{IsBlack, IsSeen}
use Rattle.barriers.specs.Invariant.{InvariantWhile}
use Rattle.barriers.specs.Pending.{pending}
use Rattle.barriers.specs.Spreading.{Covers}
use Rattle.slice_driver.specs.declared.advance.Step.{Step}
use Rattle.slice_driver.specs.Advances.{AreOut}
use Rattle.slice_driver.specs.Collector.{CollectorState}
use Rattle.slice_driver.specs.Represents.{Represents}
use Rattle.slice_driver.specs.Units.{DoesUnit, IsLowestOut, IsSound, TellsSweep, reports_of}

-- the collection was given up, of which these zones were being prepared or marked, in each world that the collector
-- stood for, which is valid after it
pub record GivesUp (old : CollectorState) (flown : ℕ → Option Bits) (zones : ZoneSet) (new : CollectorState)
    (flying : ℕ → Option Bits) : Type 0 where
  pub stops : (w : World) → IsValid w → Represents old flown w → (v : World) × Stops w (zones_in zones) v × IsValid v
      × Represents new flying v
  pub idle : new.run ≡ None
  pub sound : IsSound new flying
  pub none_out : (a : ℕ) → out_of new.heap.shape a ≡ None
  pub made : new.heap.made ≡ old.heap.made
  pub ledger : new.heap.ledger ≡ old.heap.ledger
  pub weak : new.heap.shape.weak ≡ old.heap.shape.weak

-- a step of a reset was done: the lowest arena that was out was taken in, or the collection was given up where none was
pub record ResetsOn (old : CollectorState) (flown : ℕ → Option Bits) (step : Step) (new : CollectorState)
    (flying : ℕ → Option Bits) (outs : List (ℕ × ℕ)) (now : Option Report) : Type 0 where
  pub sweeps : (a : ℕ) → IsLowestOut old.heap.shape a
      → DoesUnit old flown (reports_of now step.finished) new flying × TellsSweep a now
  pub stops : ((a : ℕ) → out_of old.heap.shape a ≡ None) → (zones : ZoneSet) × (now ≡ Some (report.Stopped zones))
      × GivesUp old flown zones new flying
  pub step_is : step ≡ record { units = 1; reported = true; finished = step.finished; handed = None }
  pub finished : (step.finished ≡ true) ↔ (new.run ≡ None)
  pub sound : IsSound new flying
  pub out : AreOut new.heap.shape outs
  pub made : new.heap.made ≡ old.heap.made
  pub ledger : new.heap.ledger ≡ old.heap.ledger
  pub entries : length new.heap.shape.weak.entries ≤ length old.heap.shape.weak.entries

-- the present cells of these zones turned black
pub record BlackensAll (h : HeapState) (zones : ZoneSet) (k : HeapState) : Type 0 where
  pub rest : k ≡ record h { colours = k.colours }
  pub sized : length k.colours ≡ length h.colours
  pub black : (x : Place) → HasZone zones.bits (zone_of h.shape x) → IsPresent h.shape x → IsBlack k x
  pub seen : (x : Place) → HasZone zones.bits (zone_of h.shape x) → IsSeen k x → IsPresent h.shape x ⊎ IsSeen h x
  pub others : (x : Place) → (HasZone zones.bits (zone_of h.shape x) → ⊥) → colour_of k x ≡ colour_of h x

-- where the cells of an arena stand
abbrev pub cells_of : ℕ → Option ArenaShape → List Place
cells_of n None = []
cells_of n (Some arena) = at_bits (alloc_word_of arena.slots) (places_of n)

-- where the cells of these zones stand, in arenas of which the first has the number n
abbrev pub places_in : ℕ → ℕ → List ArenaShape → List Place
places_in zones n [] = []
places_in zones n (arena ∷ arenas) = (if in_zones zones arena.zone then cells_of n (Some arena) else [])
    ++ places_in zones (suc n) arenas

-- what following these cells asks, before some others: edges are counted in this ledger, no zone is marking, and they
-- are black, and are being followed
pub record MayFollowAll (ledger : ℕ) (cells rest : List Place) (h : HeapState) (flown : ℕ → Option Bits) (p : Piles)
    : Type 0 where
  pub counted : h.ledger ≡ Some ledger
  pub covers : Covers h.shape flown
  pub outside : (x : Place) → is_marking h.shape x ≡ false
  pub black : (x : Place) → Contains cells x → IsBlack (joined h flown) x
  pub holds : InvariantWhile (cells ++ rest) (joined h flown) (pending h p)
