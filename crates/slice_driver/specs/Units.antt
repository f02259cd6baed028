-- What a collector's calls do in the worlds that it stands for.
use Rattle.std.specs.Prelude.{◌≡◌, ◌≢◌, ◌⊎◌, ◌+◌, ◌<◌, ◌≤◌, ◌==◌, ℕ, Bool, true, false, List, [], ◌∷◌, Option, Some}
use Rattle.std.specs.Prelude.{None, Result, Ok}
use Rattle.std.specs.Prelude.{Err, IsSome, slice_get, if◌then◌else◌, Contains, ⊤}
use Rattle.gz_names.specs.Zones.{zones_in}
use Rattle.gz_names.specs.declared.names.Name.{Name}
use Rattle.gz_names.specs.declared.commands.GraphCmd.{GraphCmd}
use Rattle.gz_names.specs.declared.replies.Reply.{Reply}
use Rattle.gz_names.specs.declared.replies.Reply.TheVariants as reply
use Rattle.gz_names.specs.declared.replies.CmdFault.{CmdFault}
use Rattle.gz_names.specs.declared.replies.CmdFault.TheVariants as fault
use Rattle.gz_names.specs.declared.replies.Report.{Report}
use Rattle.gz_names.specs.declared.replies.Report.TheVariants as report
use Rattle.cell_bits.specs.declared.bits.Bits.{Bits}
use Rattle.cell_bits.specs.declared.jobs.Job.{Job}
use Rattle.colour_defs.specs.Ends.{zones_without}
use Rattle.colour_defs.specs.Graph.{GraphState}
use Rattle.colour_defs.specs.Units.{Tally, unit_limit, with_put, with_woken}
use Rattle.colour_defs.specs.World.{World, Collection, CommandInWorld, Preparation, WakesLeftOut, also_woken_by}
use Rattle.colour_defs.specs.World.{first_tally, woken_by}
use Rattle.colour_defs.specs.Lawful.{IsLawfulUnit, Prepares}
use Rattle.colour_defs.specs.Laws.{IsValid}
use Rattle.cell_bits.specs.Colours.{white_mask_of}
use Rattle.arena_table.specs.Slots.{alloc_word_of}
use Rattle.sweeping.specs.ArenasOut as arenas
use Rattle.heap_core.specs.Shape.{ArenaShape, Shape, out_of}
use Rattle.heap_core.specs.Heap.{HeapState}
use Rattle.heap_core.specs.Sweeping.{jobs_of}
use Rattle.slice_driver.specs.Collector.{CollectorState}
use Rattle.slice_driver.specs.GroupEnd.{AreColoured}
use Rattle.slice_driver.specs.Represents.{Represents, RepresentsMarking}
use Rattle.slice_driver.specs.UnitsToCome.{IsWithin, units_to_come}

-- no arena is in flight
abbrev pub none_flown : ℕ → Option Bits
none_flown a = None

-- the bits of jobs, by arena
abbrev pub flown_by : List Job → ℕ → Option Bits
flown_by = arenas.flown_by

-- all but one arena are in flight on
abbrev pub without_arena : (ℕ → Option Bits) → ℕ → ℕ → Option Bits
without_arena flown taken a = if a == taken then None else flown a

-- a collector stands for some valid world
pub record IsSound (c : CollectorState) (flown : ℕ → Option Bits) : Type 0 where
  pub world : World
  pub valid : IsValid world
  pub represents : Represents c flown world

-- in which nothing is being prepared
pub record IsSoundMarking (c : CollectorState) (flown : ℕ → Option Bits) : Type 0 where
  pub world : World
  pub valid : IsValid world
  pub represents : RepresentsMarking c flown world

-- the world after memory was wanted for a command: it is as it was, but that while a collection is being prepared what
-- a `wrap` is about may have turned black, with what it leads to among the names that the collection leaves out
abbrev pub IsAfterWant : World → GraphCmd → World → Type 0
IsAfterWant w cmd v = (v ≡ w) ⊎ ((p : Preparation) × (w.preparing ≡ Some p) × (v ≡ record w { black = v.black })
    × WakesLeftOut w p (λ s. also_woken_by w.graph cmd ≡ Some s) v)

-- a command was answered: it is one in the world, or memory was wanted
abbrev pub AnswersIn : World → GraphCmd → Result Reply CmdFault → CollectorState → (ℕ → Option Bits) → Type 0
AnswersIn w cmd (Ok answer) c flown = (v : World) × CommandInWorld w cmd answer v × Represents c flown v
AnswersIn w cmd (Err (fault.Refused why)) c flown = CommandInWorld w cmd (reply.Refused why) w × Represents c flown w
AnswersIn w cmd (Err fault.NoMemory) c flown = (v : World) × IsAfterWant w cmd v × Represents c flown v

-- in each world that the collector stood for
abbrev pub DoesCommand : CollectorState → (ℕ → Option Bits) → GraphCmd → Result Reply CmdFault → CollectorState
    → (ℕ → Option Bits) → Type 0
DoesCommand old flown cmd result new flying = (w : World) → IsValid w → Represents old flown w
    → AnswersIn w cmd result new flying

-- the tally of a collection after an accepted command
abbrev pub tally_after : GraphState → GraphCmd → Collection → Tally
tally_after g cmd k = with_woken g k.zones (woken_by g cmd) (with_put g k.zones cmd k.tally)

-- a command raises a number by no more than the bound on units, and not at all where it was not done
abbrev pub RaisesBy : World → Collection → GraphCmd → Result Reply CmdFault → ℕ → ℕ → Type 0
RaisesBy w k cmd (Ok answer) old new = new + unit_limit k.tally ≤ old + unit_limit (tally_after w.graph cmd k)
RaisesBy w k cmd (Err why) old new = new ≤ old

-- it so raises what is to come of the collection that runs, in each world that the collector stood for, and not at all
-- while that is being prepared
pub record RaisesWithin (old : CollectorState) (flown : ℕ → Option Bits) (cmd : GraphCmd)
    (result : Result Reply CmdFault) (new : CollectorState) (flying : ℕ → Option Bits) : Type 0 where
  pub marking : (w : World) (k : Collection) → IsValid w → Represents old flown w → w.collection ≡ Some k
      → RaisesBy w k cmd result (units_to_come old flown) (units_to_come new flying)
  pub preparing : (w : World) (p : Preparation) → IsValid w → Represents old flown w → w.preparing ≡ Some p
      → units_to_come new flying ≤ units_to_come old flown

-- a collection of these zones is being prepared, in each world that the collector stood for, which is valid after it
abbrev pub BeginsIn : CollectorState → ℕ → CollectorState → Type 0
BeginsIn old zones new = (flown : ℕ → Option Bits) (w : World) → IsValid w → Represents old flown w → (v : World)
    × Prepares w (zones_in (record { bits = zones })) v × IsValid v × Represents new flown v

-- what is to come of a collection of these zones that began is within its bound on units, in each world in which it
-- began and for whose beginning the collector stood
abbrev pub BeginsWithin : CollectorState → ℕ → CollectorState → Type 0
BeginsWithin old zones new = (flown : ℕ → Option Bits) (w v : World) → IsValid w → Represents old flown w
    → Prepares w (zones_in (record { bits = zones })) v → IsWithin new flown v

-- a unit begins the marking of the collection: nothing was left to clear, and with what is to come then the collection
-- is within its bound on units, in each world that the collector stood for
pub record StartsWithin (old : CollectorState) (flown : ℕ → Option Bits) (new : CollectorState)
    (flying : ℕ → Option Bits) : Type 0 where
  pub cleared : units_to_come old flown ≡ 0
  pub within : (w : World) (p : Preparation) → IsValid w → Represents old flown w → w.preparing ≡ Some p
      → p.arenas + 1 + units_to_come new flying ≤ unit_limit (first_tally w p)

-- the reports of a unit
abbrev pub with_done : Bool → List Report
with_done finished = if finished then report.Done ∷ [] else []

abbrev pub reports_of : Option Report → Bool → List Report
reports_of None finished = []
reports_of (Some r) finished = r ∷ with_done finished

-- a unit was done: its reports are lawful, and the collector stands for the world after it
abbrev pub DoesUnit : CollectorState → (ℕ → Option Bits) → List Report → CollectorState → (ℕ → Option Bits) → Type 0
DoesUnit old flown reports new flying = (w : World) → IsValid w → Represents old flown w
    → (v : World) × IsLawfulUnit w reports v × Represents new flying v

-- what is in flight after a unit: the arenas that it handed to sweeping, or what was
abbrev pub flying_after : Option (List Job) → (ℕ → Option Bits) → ℕ → Option Bits
flying_after = arenas.flying_after

-- the lowest arena that is handed to sweeping
pub record IsLowestOut (s : Shape) (a : ℕ) : Type 0 where
  pub out : IsSome (out_of s a)
  pub lowest : (b : ℕ) → b < a → out_of s b ≡ None

-- the slots of an arena's white cells as it was handed to sweeping
abbrev pub IsFreedWord : Shape → ℕ → ℕ → Type 0
IsFreedWord s a freed = (arena : ArenaShape) (bits : Bits) → slice_get s.arenas a ≡ Some arena → arena.out ≡ Some bits
    → freed ≡ white_mask_of bits (alloc_word_of arena.slots)

-- the arenas that are handed to sweeping keep the slots of their white cells
abbrev pub KeepsFreedWords : Shape → Shape → Type 0
KeepsFreedWords s t = (a freed : ℕ) → IsFreedWord s a freed → IsFreedWord t a freed

-- the arenas of jobs ascend
abbrev pub AreAscendingJobs : List Job → Type 0
AreAscendingJobs [] = ⊤
AreAscendingJobs (job ∷ jobs) = ((other : Job) → Contains jobs other → job.arena < other.arena) × AreAscendingJobs jobs

-- a report that this arena was swept
abbrev pub TellsSweep : ℕ → Option Report → Type 0
TellsSweep a told = (names : List Name) × (told ≡ Some (report.Swept a names))

-- jobs of arenas that are handed to sweeping, ascending, with the slots of their white cells
pub record AreJobsOf (s : Shape) (jobs : List Job) : Type 0 where
  pub ascending : AreAscendingJobs jobs
  pub freed : (job : Job) → Contains jobs job → IsFreedWord s job.arena (white_mask_of job.bits job.alloc_word)

-- a unit hands such jobs to sweeping, or none
abbrev pub HandsJobs : Option (List Job) → Shape → Shape → Type 0
HandsJobs None s t = KeepsFreedWords s t
HandsJobs (Some jobs) s t = AreJobsOf t jobs

-- a unit reports the end of a group
abbrev pub is_group_end : Option Report → Bool
is_group_end None = false
is_group_end (Some (report.Groups groups)) = false
is_group_end (Some (report.Ended zones grays told)) = true
is_group_end (Some (report.Swept arena names)) = false
is_group_end (Some report.Started) = false
is_group_end (Some report.Done) = false
is_group_end (Some (report.Stopped zones)) = false

-- a unit reports that marking began
abbrev pub is_start : Option Report → Bool
is_start None = false
is_start (Some (report.Groups groups)) = false
is_start (Some (report.Ended zones grays told)) = false
is_start (Some (report.Swept arena names)) = false
is_start (Some report.Started) = true
is_start (Some report.Done) = false
is_start (Some (report.Stopped zones)) = false

-- the jobs that a unit hands to sweeping, by its report: the arenas of the zones that end, with their bits
abbrev pub jobs_at : Option Report → HeapState → List Job
jobs_at None h = []
jobs_at (Some (report.Groups groups)) h = []
jobs_at (Some (report.Ended zones grays told)) h = jobs_of zones.bits 0 h.shape.arenas h.colours
jobs_at (Some (report.Swept arena names)) h = []
jobs_at (Some report.Started) h = []
jobs_at (Some report.Done) h = []
jobs_at (Some (report.Stopped zones)) h = []

-- exactly these jobs, or none where there are none
abbrev pub AreJobs : Option (List Job) → List Job → Type 0
AreJobs None jobs = jobs ≡ []
AreJobs (Some handed) jobs = (handed ≡ jobs) × (jobs ≢ [])

-- where a unit reports the end of a group, each present cell of any zone has by these bits the colour that the end asks
abbrev pub EndsColoured : Option Report → CollectorState → (ℕ → Option Bits) → List Bits → Type 0
EndsColoured None c flown colours = ⊤
EndsColoured (Some (report.Groups groups)) c flown colours = ⊤
EndsColoured (Some (report.Ended zones grays told)) c flown colours = (w : World) (k : Collection) → IsValid w
    → Represents c flown w → w.collection ≡ Some k → AreColoured (record c.heap { colours = colours }) w.graph k
    (zones_without k.marking (zones_in zones))
EndsColoured (Some (report.Swept arena names)) c flown colours = ⊤
EndsColoured (Some report.Started) c flown colours = ⊤
EndsColoured (Some report.Done) c flown colours = ⊤
EndsColoured (Some (report.Stopped zones)) c flown colours = ⊤
