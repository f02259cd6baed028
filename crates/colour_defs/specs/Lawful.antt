-- What a collection may report, how each command may be answered, and what a whole run may write.
use Rattle.std.specs.Prelude.{◌≡◌, ◌≢◌, ◌⊎◌, ◌↔◌, ℕ, ◌+◌, ◌<◌, ◌≤◌, List, [], ◌∷◌, ◌++◌, length, map, Option, Some}
use Rattle.std.specs.Prelude.{None, Contains, is_some}
use Rattle.std.specs.List.{flat_map}
use Rattle.std.specs.FinSet as set
use Rattle.gz_names.specs.declared.names.Name.{Name}
use Rattle.gz_names.specs.declared.commands.Cmd.{Cmd}
use Rattle.gz_names.specs.declared.commands.Cmd.TheVariants as command
use Rattle.gz_names.specs.declared.replies.Reply.{Reply}
use Rattle.gz_names.specs.declared.replies.Reply.TheVariants as reply
use Rattle.gz_names.specs.declared.replies.Report.{Report}
use Rattle.gz_names.specs.declared.replies.Report.TheVariants as report
use Rattle.gz_names.specs.declared.replies.Refusal.TheVariants as refusal
use Rattle.gz_names.specs.Zones.{zones_in}
use Rattle.colour_defs.specs.Graph.{IsInZones}
use Rattle.gz_names.specs.declared.dumps.DumpLine.{DumpLine}
use Rattle.colour_defs.specs.Closure.{Closure}
use Rattle.colour_defs.specs.Units.{Tally, MeetsUnitBound}
use Rattle.colour_defs.specs.World.{Has, Preparation, Collection, World, IsPresent, IsSettled, IsIdle, BlackClosure}
use Rattle.colour_defs.specs.World.{CommandInWorld, marking_of, first_preparation, first_tally, first_world}
use Rattle.colour_defs.specs.Groups.{AreLawfulGroups}
use Rattle.colour_defs.specs.Ends.{Lists, IsLawfulEnd}
use Rattle.colour_defs.specs.WeakRefs.{WeakInWorld, LosesWeak}
use Rattle.colour_defs.specs.Dumps.{IsDump}
use Rattle.colour_defs.specs.Compaction.{Compacts}

-- a collection runs: it marks and sweeps, or is being prepared
abbrev pub IsRunning : World → Type 0
IsRunning w = ((k : Collection) × (w.collection ≡ Some k)) ⊎ ((p : Preparation) × (w.preparing ≡ Some p))

-- the collection of these zones is prepared, and its marking begins. The black starts are the registers and what
-- is black, which is of other zones; the live starts are these, the gray slots, and what is present in other zones
pub record Begins (w : World) (zones : List ℕ) (v : World) : Type 0 where
  pub preparation : Preparation
  pub was : w.preparing ≡ Some preparation
  pub of_zones : preparation.zones ≡ zones
  pub collection : Collection
  pub world_is : v ≡ record w { preparing = None; collection = Some collection }
  pub zones_are : collection.zones ≡ zones
  pub marking_are : collection.marking ≡ zones
  pub snapshot_is : collection.snapshot ≡ w.graph
  pub woken_is : collection.woken ≡ set.empty
  pub groups_are : collection.groups ≡ None
  pub tally_is : collection.tally ≡ first_tally w preparation
  pub black_starts : (x : Name) → Has collection.black_starts x ↔ (Contains w.graph.registers (Some x) ⊎ Has w.black x)
  pub live_starts : (x : Name) → Has collection.live_starts x
      ↔ (Has collection.black_starts x
      ⊎ (Contains w.graph.slots (Some x) ⊎ (IsPresent w x × (IsInZones w.graph zones x → ⊥))))

-- the groups of a collection are formed, once
pub record FormsGroups (w : World) (groups : List (List ℕ)) (v : World) : Type 0 where
  pub collection : Collection
  pub running : w.collection ≡ Some collection
  pub none_yet : collection.groups ≡ None
  pub lawful : AreLawfulGroups w collection groups
  pub world_is : v ≡ record w { collection = Some (record collection { groups = Some groups }) }

-- the first group that has not ended ends, and with its white names their weak names go
pub record EndsGroup (w : World) (zones : List ℕ) (grays told : List Name) (v : World) : Type 0 where
  pub collection : Collection
  pub rest : List (List ℕ)
  pub running : w.collection ≡ Some collection
  pub first : collection.groups ≡ Some (zones ∷ rest)
  pub ends : IsLawfulEnd w collection zones rest grays v
  pub loses : LosesWeak w told v

abbrev pub with_sweep : Option Collection → Option Collection
with_sweep None = None
with_sweep (Some k) = Some (record k { tally = record k.tally { sweeps = k.tally.sweeps + 1 } })

-- the lowest arena that is out is taken in, and its white cells are freed
pub record IsLawfulSweep (w : World) (arena : ℕ) (freed : List Name) (v : World) : Type 0 where
  pub rest : List ℕ
  pub first : w.out ≡ arena ∷ rest
  pub world_is : v ≡ record w { out = rest; white = v.white; collection = with_sweep w.collection }
  pub freed_are : Lists (λ x. (slot : ℕ) × Contains w.white (x, (arena, slot))) freed
  pub white_are : (x : Name) (p : ℕ × ℕ) → Contains v.white (x, p) ↔ (Contains w.white (x, p) × (p.0 ≢ arena))

-- nothing is left to do: all groups have ended, and no arena is out
pub record IsOver (w : World) : Type 0 where
  pub collection : Collection
  pub running : w.collection ≡ Some collection
  pub ended : collection.groups ≡ Some []
  pub none_out : w.out ≡ []

-- a collection that is over runs no longer
pub record Finishes (w v : World) : Type 0 where
  pub over : IsOver w
  pub world_is : v ≡ record w { collection = None }

-- one report of a unit, and the world after it. No unit gives a collection up
abbrev pub IsLawfulReport : World → Report → World → Type 0
IsLawfulReport w report.Started v = (zones : List ℕ) × Begins w zones v
IsLawfulReport w (report.Groups groups) v = FormsGroups w (map zones_in groups) v
IsLawfulReport w (report.Ended zones grays told) v = EndsGroup w (zones_in zones) grays told v
IsLawfulReport w (report.Swept arena freed) v = IsLawfulSweep w arena freed v
IsLawfulReport w report.Done v = Finishes w v
IsLawfulReport w (report.Stopped zones) v = ⊥

-- the reports of one unit: none, or one, or the last one and `done` right after it
pub data IsLawfulUnit (w : World) : List Report → World → Type 0 where
  quiet : IsRunning w → IsLawfulUnit w [] w
  says : {r : Report} {v : World} → IsRunning w → r ≢ report.Done → IsLawfulReport w r v → (IsOver v → ⊥)
      → IsLawfulUnit w (r ∷ []) v
  last : {r : Report} {u v : World} → IsRunning w → r ≢ report.Done → IsLawfulReport w r u
      → IsLawfulReport u report.Done v → IsLawfulUnit w (r ∷ report.Done ∷ []) v

-- units one after another, each with its reports
abbrev pub AreLawfulUnits : World → List (List Report) → World → Type 0
AreLawfulUnits w [] v = v ≡ w
AreLawfulUnits w (unit ∷ units) v = (u : World) × IsLawfulUnit w unit u × AreLawfulUnits u units v

-- a collection of these zones begins: they are being prepared, arena by arena, and what was black in them counts no
-- longer. The unit that reports `started` begins its marking
pub record Prepares (w : World) (zones : List ℕ) (v : World) : Type 0 where
  pub idle : IsIdle w
  pub made : (z : ℕ) → Contains zones z → z < w.graph.zones
  pub some : zones ≢ []
  pub world_is : v ≡ record w { black = v.black; preparing = Some (first_preparation w zones) }
  pub black_are : (x : Name) → Has v.black x ↔ (Has w.black x × (IsInZones w.graph zones x → ⊥))

-- a command that reports nothing and changes nothing
pub record ChangesNothing (w : World) (reports : List Report) (v : World) : Type 0 where
  pub silent : reports ≡ []
  pub same : v ≡ w

-- what `gc`, `collect` and `compact` are refused by, in this order
abbrev pub RefusesToBegin : World → List ℕ → List Report → Reply → World → Type 0
RefusesToBegin w zones reports answer v =
    ((answer ≡ reply.Refused refusal.Running) × IsRunning w × ChangesNothing w reports v)
    ⊎ ((answer ≡ reply.Refused refusal.NoZone) × IsIdle w × (((z : ℕ) → Contains zones z → z < w.graph.zones) → ⊥)
    × ChangesNothing w reports v)

-- what `slice`, `finish` and `reset` are refused by
abbrev pub RefusesIdle : World → List Report → Reply → World → Type 0
RefusesIdle w reports answer v = (answer ≡ reply.Refused refusal.Idle) × IsIdle w × ChangesNothing w reports v

abbrev pub with_spent : ℕ → Option Collection → Option Collection
with_spent n None = None
with_spent n (Some k) = Some (record k { tally = record k.tally { spent = k.tally.spent + n } })

abbrev pub with_spent_preparing : ℕ → Option Preparation → Option Preparation
with_spent_preparing n None = None
with_spent_preparing n (Some p) = Some (record p { spent = p.spent + n })

-- the tally of the collection that runs. While it is prepared, it is the one with which marking would begin now;
-- what that counts is the same at each moment of a slice until marking begins
abbrev pub HasTally : World → Tally → Type 0
HasTally w t =
    ((k : Collection) × (w.collection ≡ Some k) × (t ≡ k.tally))
    ⊎ ((p : Preparation) × (w.preparing ≡ Some p) × (t ≡ first_tally w p))

-- this number of units of a collection that runs, with which it keeps the bound on units
pub record Slices (w : World) (reports : List Report) (n : ℕ) (v : World) : Type 0 where
  pub running : IsRunning w
  pub units : List (List Report)
  pub after : World
  pub done : AreLawfulUnits w units after
  pub number : length units ≡ n
  pub reports_are : reports ≡ flat_map (λ u. u) units
  pub world_is : v ≡ record after {
    preparing = with_spent_preparing n after.preparing;
    collection = with_spent n after.collection;
  }
  pub tally : Tally
  pub tally_is : HasTally w tally
  pub within : MeetsUnitBound (is_some after.preparing) tally reports n

-- a collection of these zones, from its beginning until it is over
pub record Collects (w : World) (zones : List ℕ) (reports : List Report) (v : World) : Type 0 where
  pub begun : World
  pub begins : Prepares w zones begun
  pub units : List (List Report)
  pub done : AreLawfulUnits begun units v
  pub reports_are : reports ≡ flat_map (λ u. u) units
  pub over : IsIdle v

-- arenas are taken in, one after another
abbrev pub AreLawfulSweeps : World → List Report → World → Type 0
AreLawfulSweeps w [] v = v ≡ w
AreLawfulSweeps w (report.Swept arena freed ∷ rs) v =
    (u : World) × IsLawfulSweep w arena freed u × AreLawfulSweeps u rs v
AreLawfulSweeps w (report.Started ∷ rs) v = ⊥
AreLawfulSweeps w (report.Groups groups ∷ rs) v = ⊥
AreLawfulSweeps w (report.Ended zones grays told ∷ rs) v = ⊥
AreLawfulSweeps w (report.Done ∷ rs) v = ⊥
AreLawfulSweeps w (report.Stopped zones ∷ rs) v = ⊥

-- the zones that a collection is still preparing or marking
abbrev pub IsUnfinished : World → ℕ → Type 0
IsUnfinished w z =
    Contains (marking_of w.collection) z ⊎ ((p : Preparation) × (w.preparing ≡ Some p) × Contains p.zones z)

-- what counts as black as a collection is given up: what it would find black, or, while it is prepared, what is
-- black
abbrev pub IsBlackSoFar : World → Name → Type 0
IsBlackSoFar w x =
    ((k : Collection) × (w.collection ≡ Some k) × BlackClosure k x × IsPresent w x)
    ⊎ ((p : Preparation) × (w.preparing ≡ Some p) × Has w.black x)

-- a collection is given up, with no arena out: every present cell of the zones that it was still preparing or
-- marking becomes black, and so does what is reached from there and from what is black so far (resetting of
-- js/src/gc/GC.cpp; that it blackens is our choice)
pub record Stops (w : World) (zones : List ℕ) (v : World) : Type 0 where
  pub running : IsRunning w
  pub none_out : w.out ≡ []
  pub not_over : IsOver w → ⊥
  pub zones_are : (z : ℕ) → Contains zones z ↔ IsUnfinished w z
  pub world_is : v ≡ record w { black = v.black; preparing = None; collection = None }
  pub black_are : (x : Name) → Has v.black x
      ↔ (Closure w.graph (λ s. IsBlackSoFar w s ⊎ (IsPresent w s × IsInZones w.graph zones s)) x × IsPresent w x)

-- the last report of a reset, once no arena is out: the collection is over with it, or is given up
abbrev pub LastOfReset : World → Report → World → Type 0
LastOfReset w report.Started v = ⊥
LastOfReset w (report.Groups groups) v = ⊥
LastOfReset w (report.Ended zones grays told) v = ⊥
LastOfReset w (report.Swept arena freed) v = ⊥
LastOfReset w report.Done v = Finishes w v
LastOfReset w (report.Stopped zones) v = Stops w (zones_in zones) v

-- a reset: all arenas that are out are taken in, and then the collection is over, or is given up
pub record Resets (w : World) (reports : List Report) (v : World) : Type 0 where
  pub running : IsRunning w
  pub sweeps : List Report
  pub after : World
  pub swept : AreLawfulSweeps w sweeps after
  pub final : Report
  pub ends : LastOfReset after final v
  pub reports_are : reports ≡ sweeps ++ final ∷ []

-- one command: its reports, its last line, and the world after it
abbrev pub Answers : World → Cmd → List Report → Reply → World → Type 0
Answers w (command.Graph c) reports answer v = (reports ≡ []) × CommandInWorld w c answer v
Answers w (command.Weak c) reports answer v = (reports ≡ []) × WeakInWorld w c answer v
Answers w (command.Gc zones) reports answer v =
    ((answer ≡ reply.GcBegun) × (reports ≡ []) × Prepares w (zones_in zones) v)
    ⊎ RefusesToBegin w (zones_in zones) reports answer v
Answers w (command.Slice n) reports answer v =
    ((k : ℕ) × (answer ≡ reply.Sliced k) × Slices w reports k v × (k ≤ n) × (k < n → IsIdle v))
    ⊎ RefusesIdle w reports answer v
Answers w command.Finish reports answer v =
    ((k : ℕ) × (answer ≡ reply.Sliced k) × Slices w reports k v × IsIdle v) ⊎ RefusesIdle w reports answer v
Answers w (command.Collect zones) reports answer v =
    ((answer ≡ reply.Collected) × Collects w (zones_in zones) reports v)
    ⊎ RefusesToBegin w (zones_in zones) reports answer v
Answers w command.Reset reports answer v =
    ((answer ≡ reply.ResetDone) × Resets w reports v) ⊎ RefusesIdle w reports answer v
Answers w command.Colours reports answer v =
    ((names : List Name) × (answer ≡ reply.Gray names) × IsSettled w
    × Lists (λ x. IsPresent w x × (Has w.black x → ⊥)) names × ChangesNothing w reports v)
    ⊎ ((answer ≡ reply.Refused refusal.Marking) × (IsSettled w → ⊥) × ChangesNothing w reports v)
Answers w command.Dump reports answer v =
    ((lines : List DumpLine) × (answer ≡ reply.Dump lines) × IsSettled w × IsDump w lines × ChangesNothing w reports v)
    ⊎ ((answer ≡ reply.Refused refusal.Marking) × (IsSettled w → ⊥) × ChangesNothing w reports v)
Answers w (command.Compact zone) reports answer v =
    ((moved : ℕ) × (given : ℕ) × (answer ≡ reply.Compacted moved given) × (reports ≡ [])
    × Compacts w zone moved given v)
    ⊎ RefusesToBegin w (zone ∷ []) reports answer v

-- a whole run: for each command its reports and its last line
abbrev pub Run : World → List Cmd → List (List Report × Reply) → World → Type 0
Run w [] [] v = v ≡ w
Run w (c ∷ cs) (a ∷ answers) v = (u : World) × Answers w c a.0 a.1 u × Run u cs answers v
Run w [] (a ∷ answers) v = ⊥
Run w (c ∷ cs) [] v = ⊥

-- P holds of every world that a lawful run reaches
abbrev pub HoldsInEveryRun : (World → Type 0) → Type 0
HoldsInEveryRun P =
    (commands : List Cmd) (answers : List (List Report × Reply)) (w : World) → Run first_world commands answers w → P w

-- these answers are lawful for these commands
abbrev pub IsLawfulOutput : List Cmd → List (List Report × Reply) → Type 0
IsLawfulOutput commands answers = (v : World) × Run first_world commands answers v

-- the reports of the units that were done so far, each unit whole
pub record DoesUnits (w : World) (units : List (List Report)) (reports : List Report) : Type 0 where
  pub after : World
  pub done : AreLawfulUnits w units after
  pub reports_are : reports ≡ flat_map (λ u. u) units

-- what a reset may have reported by some moment: some of its sweeps, or all of its reports
abbrev pub StartsToReset : World → List Report → Type 0
StartsToReset w reports =
    IsRunning w × (((v : World) × AreLawfulSweeps w reports v) ⊎ ((v : World) × Resets w reports v))

-- what a command may have written by some moment before its last line
abbrev pub StartsToAnswer : World → Cmd → List Report → Type 0
StartsToAnswer w (command.Graph c) reports = reports ≡ []
StartsToAnswer w (command.Weak c) reports = reports ≡ []
StartsToAnswer w (command.Gc zones) reports = reports ≡ []
StartsToAnswer w (command.Slice n) reports =
    (units : List (List Report)) × (length units ≤ n) × DoesUnits w units reports
StartsToAnswer w command.Finish reports = (units : List (List Report)) × DoesUnits w units reports
StartsToAnswer w (command.Collect zones) reports =
    (reports ≡ []) ⊎ ((begun : World) × Prepares w (zones_in zones) begun × (units : List (List Report))
    × DoesUnits begun units reports)
StartsToAnswer w command.Reset reports = (reports ≡ []) ⊎ StartsToReset w reports
StartsToAnswer w command.Colours reports = reports ≡ []
StartsToAnswer w command.Dump reports = reports ≡ []
StartsToAnswer w (command.Compact zone) reports = reports ≡ []
