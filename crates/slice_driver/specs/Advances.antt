-- What a step of a collection does, whoever sweeps.
use Rattle.std.specs.Prelude.{◌≡◌, ◌≢◌, ◌↔◌, ◌<◌, ◌≤◌, ◌+◌, ℕ, Bool, true, false, List, [], Option, None, Some, Result}
use Rattle.std.specs.Prelude.{IsSome, OnErr, if◌then◌else◌, length, Contains}
use Rattle.std.specs.List.{flat_map}
use Rattle.gz_names.specs.declared.replies.Report.{Report}
use Rattle.cell_bits.specs.declared.bits.Bits.{Bits}
use Rattle.cell_bits.specs.declared.jobs.Job.{Job}
use Rattle.colour_defs.specs.World.{World}
use Rattle.colour_defs.specs.Laws.{IsValid}
use Rattle.colour_defs.specs.Lawful.{AreLawfulUnits}
use Rattle.colour_defs.specs.Units.{sweeps_in}
use Rattle.sweeping.specs.ArenasOut.{AscendHanded, outs_of}
use Rattle.heap_core.specs.Shape.{Shape}
use Rattle.heap_core.specs.Heap.{HeapState}
use Rattle.slice_driver.specs.declared.advance.Step.{Step}
use Rattle.slice_driver.specs.Collector.{CollectorState}
use Rattle.slice_driver.specs.Left.{units_left}
use Rattle.slice_driver.specs.Represents.{Represents}
use Rattle.slice_driver.specs.Units.{DoesUnit, EndsColoured, IsFreedWord, IsLowestOut, IsSound, KeepsFreedWords}
use Rattle.slice_driver.specs.Units.{StartsWithin, TellsSweep, is_group_end, is_start, jobs_at, reports_of}
use Rattle.slice_driver.specs.Units.{without_arena}
use Rattle.slice_driver.specs.UnitsToCome.{units_to_come}
use Rattle.slice_driver.specs.Working.{IsAtGroupEnd, IsAtStart, IsQuietDone, IsResting, IsStill}

-- these arenas are out, each with the slots of its white cells as it was handed to sweeping
pub record AreOut (s : Shape) (outs : List (ℕ × ℕ)) : Type 0 where
  pub freed : (a word : ℕ) → Contains outs (a, word) → IsFreedWord s a word

-- this number of units were done, with these reports in all: they are lawful, and the collector stands for the valid
-- world after them
pub record UnitsDone (w : World) (n : ℕ) (reports : List Report) (new : CollectorState) (flying : ℕ → Option Bits)
    : Type 0 where
  pub units : List (List Report)
  pub number : length units ≡ n
  pub reports_are : flat_map (λ u. u) units ≡ reports
  pub after : World
  pub done : AreLawfulUnits w units after
  pub valid : IsValid after
  pub represents : Represents new flying after

-- this number of units was done in each valid world that the collector stood for
abbrev pub DoesUnits : CollectorState → (ℕ → Option Bits) → ℕ → List Report → CollectorState → (ℕ → Option Bits)
    → Type 0
DoesUnits old flown n reports new flying = (w : World) → IsValid w → Represents old flown w
    → UnitsDone w n reports new flying

-- what a step tells: the report in its place, if it put one there, and `done` behind the last one
abbrev pub told : Step → Option Report → List Report
told step place = if step.reported then reports_of place step.finished else []

-- whether that is the end of a group
abbrev pub tells_end : Step → Option Report → Bool
tells_end step place = if step.reported then is_group_end place else false

-- whether it is that marking began
abbrev pub tells_start : Step → Option Report → Bool
tells_start step place = if step.reported then is_start place else false

-- the jobs that come with it: the arenas of the zones that end, with their bits, and none but at the end of a group
abbrev pub jobs_told : Step → Option Report → HeapState → List Job
jobs_told step place h = if step.reported then jobs_at place h else []

-- a step was done: units that report nothing, some and at most so many, or one unit that reports. What it reports is
-- told. These bits are in flight then, and these arenas are out, with those that the step handed to sweeping
pub record Advances (limit : ℕ) (old : CollectorState) (flown : ℕ → Option Bits) (before : Option Report) (step : Step)
    (new : CollectorState) (flying : ℕ → Option Bits) (outs : List (ℕ × ℕ)) (now : Option Report) : Type 0 where
  -- what was done
  pub done : DoesUnits old flown step.units (told step now) new flying
  pub some : 0 < step.units
  pub most : step.units ≤ limit
  pub less : units_left new flying + step.units ≤ units_left old flown
  pub to_come : tells_start step now ≡ false
      → units_to_come new flying + step.units ≤ units_to_come old flown + sweeps_in (told step now)
  pub starts : tells_start step now ≡ true → StartsWithin old flown new flying
  -- what is told of it
  pub told_some : step.reported ≡ true → IsSome now
  pub told_none : step.reported ≡ false → now ≡ before
  pub finished : (step.finished ≡ true) ↔ (new.run ≡ None)
  -- where it tells: one unit that reports is the whole step, and no unit that reports nothing was left before it
  pub one : step.reported ≡ true → step.units ≡ 1
  pub rests : step.reported ≡ true → IsQuietDone old flown
  -- it is the beginning of marking exactly where a collection is being prepared and no arena is left to be cleared; it
  -- is the end of a group exactly where nothing else is left to do, and the lowest arena where only one is out; as a
  -- group ends each present cell has by its bits the colour that the end asks, and the group's arenas are handed over
  pub started_where : (tells_start step now ≡ true) ↔ IsAtStart old
  pub ended_where : (tells_end step now ≡ true) ↔ IsAtGroupEnd old flown
  pub due_where : IsResting old flown → (a : ℕ) → IsLowestOut old.heap.shape a → (step.reported ≡ true)
      × TellsSweep a now
  pub coloured : step.reported ≡ true → EndsColoured now old flown new.heap.colours
  pub queued : jobs_told step now old.heap ≢ [] → outs ≡ outs_of (jobs_told step now old.heap)
  -- how the collector stands then
  pub sound : IsSound new flying
  pub out : AreOut new.heap.shape outs
  pub ascending : AscendHanded step.handed
  pub made : new.heap.made ≡ old.heap.made
  pub ledger : new.heap.ledger ≡ old.heap.ledger
  pub entries : length new.heap.shape.weak.entries ≤ length old.heap.shape.weak.entries

-- what a step asks: the collector stands for a valid world, a collection runs, and these arenas are out
pub record MayAdvance (c : CollectorState) (flown : ℕ → Option Bits) (outs : List (ℕ × ℕ)) : Type 0 where
  pub sound : IsSound c flown
  pub running : IsSome c.run
  pub out : AreOut c.heap.shape outs

-- where memory was wanted nothing was done, and nothing is told of it; what is out, and with which sweeper, is as
-- before
pub record StillOnErr {S O H T E : Type 0} (bits_of : S → ℕ → Option Bits) (origin_of : S → O) (home_of : O → H)
    (result : Result T E) (c : CollectorState) (f : S) (before : Option Report) (d : CollectorState) (g : S)
    (now : Option Report) : Type 0 where
  pub err : OnErr result (IsStill c (bits_of f) d (bits_of g))
  pub err_report : OnErr result (now ≡ before)
  pub err_out : OnErr result (origin_of g ≡ origin_of f)
  pub home : home_of (origin_of g) ≡ home_of (origin_of f)

-- the lowest arena that is out was taken over from who sweeps, and in: a unit with this report was done, with which the
-- collection is over or not; the other arenas are out as they were
pub record TakesDue {S O H : Type 0} (bits_of : S → ℕ → Option Bits) (origin_of : S → O) (left_of : O → List (ℕ × ℕ))
    (home_of : O → H) (report : Option Report) (over : Bool) (c : CollectorState) (f : S) (d : CollectorState) (g : S)
    : Type 0 where
  pub done : DoesUnit c (bits_of f) (reports_of report over) d (bits_of g)
  pub left : units_left d (bits_of g) < units_left c (bits_of f)
  pub to_come : units_to_come d (bits_of g) ≤ units_to_come c (bits_of f)
  pub finished : (over ≡ true) ↔ (d.run ≡ None)
  pub sound : IsSound d (bits_of g)
  pub out : AreOut d.heap.shape (left_of (origin_of g))
  pub home : home_of (origin_of g) ≡ home_of (origin_of f)
  pub made : d.heap.made ≡ c.heap.made
  pub ledger : d.heap.ledger ≡ c.heap.ledger
  pub weak : d.heap.shape.weak ≡ c.heap.shape.weak

-- what taking an arena in asks: it is the lowest that is handed to sweeping, these were the slots of its white cells
-- then, and a collection runs
pub record MayTakeIn (c : CollectorState) (a word : ℕ) : Type 0 where
  pub lowest : IsLowestOut c.heap.shape a
  pub freed : IsFreedWord c.heap.shape a word
  pub running : IsSome c.run

-- an arena was taken in, whatever else is in flight: a unit with this report was done, which ends the collection or not
pub record TakesIn (a : ℕ) (bits : Bits) (report : Option Report) (over : Bool) (c d : CollectorState) : Type 0 where
  pub done : (flown : ℕ → Option Bits) → flown a ≡ Some bits
      → DoesUnit c flown (reports_of report over) d (without_arena flown a)
  pub sound : (flown : ℕ → Option Bits) → IsSound c flown → flown a ≡ Some bits → IsSound d (without_arena flown a)
  pub words : KeepsFreedWords c.heap.shape d.heap.shape
  pub left : (flown : ℕ → Option Bits) → IsSound c flown → flown a ≡ Some bits
      → units_left d (without_arena flown a) < units_left c flown
  pub to_come : (flown : ℕ → Option Bits) → IsSound c flown → flown a ≡ Some bits
      → units_to_come d (without_arena flown a) ≤ units_to_come c flown
  pub finished : (over ≡ true) ↔ (d.run ≡ None)
  pub made : d.heap.made ≡ c.heap.made
  pub ledger : d.heap.ledger ≡ c.heap.ledger
  pub weak : d.heap.shape.weak ≡ c.heap.shape.weak
