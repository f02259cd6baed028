-- A collector with who sweeps, as an embedder sees it.
use Rattle.std.specs.Prelude.{◌≡◌, ◌<◌, ℕ, false, List, [], Option, Some, None, Result, Ok, Err, IsSome, is_some}
use Rattle.std.specs.Prelude.{if◌then◌else◌}
use Rattle.gz_names.specs.declared.dumps.DumpLine.{DumpLine}
use Rattle.gz_names.specs.declared.names.Name.{Name}
use Rattle.gz_names.specs.declared.replies.CmdFault.{CmdFault}
use Rattle.gz_names.specs.declared.replies.CmdFault.TheVariants as fault
use Rattle.gz_names.specs.declared.replies.Reply.{Reply}
use Rattle.gz_names.specs.declared.replies.Reply.TheVariants as reply
use Rattle.gz_names.specs.declared.replies.Report.{Report}
use Rattle.gz_names.specs.declared.replies.Report.TheVariants as report
use Rattle.gz_names.specs.declared.zone_sets.ZoneSet.{ZoneSet}
use Rattle.cell_bits.specs.declared.bits.Bits.{Bits}
use Rattle.colour_defs.specs.Dumps.{IsDump}
use Rattle.colour_defs.specs.Ends.{Lists}
use Rattle.colour_defs.specs.World.{World, Has, IsPresent, IsSettled}
use Rattle.colour_defs.specs.Laws.{IsValid}
use Rattle.slice_driver.specs.declared.session.SessionFault.{SessionFault}
use Rattle.slice_driver.specs.declared.session.SessionFault.TheVariants as session
use Rattle.slice_driver.specs.declared.session.told.SessionReply.{SessionReply}
use Rattle.slice_driver.specs.declared.session.told.SessionReply.TheVariants as answer
use Rattle.slice_driver.specs.declared.session.told.SessionReport.{SessionReport}
use Rattle.slice_driver.specs.declared.session.told.SessionReport.TheVariants as told
use Rattle.slice_driver.specs.declared.session.told.SessionStep.{SessionStep}
use Rattle.slice_driver.specs.declared.advance.Step.{Step}
use Rattle.slice_driver.specs.Advances.{Advances}
use Rattle.slice_driver.specs.Collector.{CollectorState}
use Rattle.slice_driver.specs.NextGray.{IsNext}
use Rattle.slice_driver.specs.Represents.{Represents}
use Rattle.slice_driver.specs.Resets.{ResetsOn}

-- a collector, who sweeps, and the last report
pub record SessionState (S : Type 0) : Type 0 where
  pub collector : CollectorState
  pub sweeper : S
  pub report : Option Report

-- the reply that a session's stands for
abbrev pub as_reply : SessionReply → Reply
as_reply (answer.Zone z) = reply.Zone z
as_reply (answer.Comp c) = reply.Comp c
as_reply (answer.Made n) = reply.Made n
as_reply (answer.Named x) = reply.Named x
as_reply answer.Null = reply.Null
as_reply answer.Accepted = reply.Accepted
as_reply answer.Absent = reply.Absent

-- the result of a call, with the reply that says what it returns
abbrev pub replied : {T : Type 0} → (T → Reply) → Result T SessionFault → Result Reply SessionFault
replied saying (Ok x) = Ok (saying x)
replied saying (Err why) = Err why

-- what came of a command, if it was asked for at all
abbrev pub outcome_of : Result Reply SessionFault → Option (Result Reply CmdFault)
outcome_of (Ok answer) = Some (Ok answer)
outcome_of (Err (session.Refused why)) = Some (Err (fault.Refused why))
outcome_of (Err session.NoMemory) = Some (Err fault.NoMemory)
outcome_of (Err session.Full) = None

-- what a report is about: a session never gives `Done`
abbrev pub kind_of : Option Report → Option SessionReport
kind_of None = None
kind_of (Some report.Started) = Some told.Started
kind_of (Some (report.Groups groups)) = Some told.Groups
kind_of (Some (report.Ended zones grays dead)) = Some (told.Ended zones)
kind_of (Some (report.Swept arena names)) = Some (told.Swept arena)
kind_of (Some report.Done) = None
kind_of (Some (report.Stopped zones)) = Some (told.Stopped zones)

-- the names that a report lists: gray cells, or what was freed
abbrev pub names_of : Option Report → List Name
names_of None = []
names_of (Some report.Started) = []
names_of (Some (report.Groups groups)) = []
names_of (Some (report.Ended zones grays dead)) = grays
names_of (Some (report.Swept arena names)) = names
names_of (Some report.Done) = []
names_of (Some (report.Stopped zones)) = []

-- the watched cells that died with a group, as a report tells them
abbrev pub told_of : Option Report → List Name
told_of None = []
told_of (Some report.Started) = []
told_of (Some (report.Groups groups)) = []
told_of (Some (report.Ended zones grays dead)) = dead
told_of (Some (report.Swept arena names)) = []
told_of (Some report.Done) = []
told_of (Some (report.Stopped zones)) = []

-- the groups that a report lists
abbrev pub groups_of : Option Report → List ZoneSet
groups_of None = []
groups_of (Some report.Started) = []
groups_of (Some (report.Groups groups)) = groups
groups_of (Some (report.Ended zones grays dead)) = []
groups_of (Some (report.Swept arena names)) = []
groups_of (Some report.Done) = []
groups_of (Some (report.Stopped zones)) = []

-- what a session tells of a step of its collector, where this is the last report
abbrev pub session_step : Step → Option Report → SessionStep
session_step step now =
    record { units = step.units; report = (if step.reported then kind_of now else None); finished = step.finished }

abbrev pub session_result : {E : Type 0} → Result Step E → Option Report → Result SessionStep E
session_result (Ok step) now = Ok (session_step step now)
session_result (Err why) now = Err why

-- the step that it tells of
abbrev pub step_told : SessionStep → Step
step_told step = record {
  units = step.units;
  reported = is_some step.report;
  finished = step.finished;
  handed = None;
}

-- no unit was done
abbrev pub no_step : SessionStep
no_step = record { units = 0; report = None; finished = false }

-- a collector whose edges are counted in a ledger of this name: it stands for the worlds for which it stood
abbrev pub counted_in : CollectorState → Option ℕ → CollectorState
counted_in c ledger = record c { heap = record c.heap { ledger = ledger } }

-- where a collection runs and some units are asked for, a step of the collector was done, with its edges counted in a
-- new ledger; else nothing was. What it reports is the last report
pub record SessionSteps (limit : ℕ) (old : CollectorState) (flown : ℕ → Option Bits) (before : Option Report)
    (step : SessionStep) (new : CollectorState) (flying : ℕ → Option Bits) (outs : List (ℕ × ℕ)) (now : Option Report)
    : Type 0 where
  pub steps : 0 < limit → IsSome old.run
      → Advances limit (counted_in old new.heap.ledger) flown before (step_told step) new flying outs now
  pub report_is : IsSome step.report → step.report ≡ kind_of now
  pub none : (0 < limit → IsSome old.run → ⊥) → step ≡ no_step
  pub still : (0 < limit → IsSome old.run → ⊥) → (new ≡ old) × (flying ≡ flown) × (now ≡ before)

-- where a collection runs, a step of giving it up was done, with its edges counted in a new ledger; else nothing was.
-- What it reports is the last report
pub record SessionResets (old : CollectorState) (flown : ℕ → Option Bits) (before : Option Report) (step : SessionStep)
    (new : CollectorState) (flying : ℕ → Option Bits) (outs : List (ℕ × ℕ)) (now : Option Report) : Type 0 where
  pub some : IsSome old.run → ResetsOn (counted_in old new.heap.ledger) flown (step_told step) new flying outs now
  pub report_is : IsSome step.report → step.report ≡ kind_of now
  pub none : old.run ≡ None → step ≡ no_step
  pub still : old.run ≡ None → (new ≡ old) × (flying ≡ flown) × (now ≡ before)

-- the names of the gray cells in each valid world that a collector stands for; each of these is settled
abbrev pub AreGrayNames : CollectorState → (ℕ → Option Bits) → List Name → Type 0
AreGrayNames c flown names = (w : World) → IsValid w → Represents c flown w → IsSettled w
    × Lists (λ x. IsPresent w x × (Has w.black x → ⊥)) names

-- the first gray name behind another one, if there is one, in each valid world that a collector stands for; each of
-- these is settled
abbrev pub IsNextGray : CollectorState → (ℕ → Option Bits) → Option Name → Option Name → Type 0
IsNextGray c flown after next = (w : World) → IsValid w → Represents c flown w → IsSettled w
    × IsNext (λ x. IsPresent w x × (Has w.black x → ⊥)) after next

-- the lines are the dump of each valid world that a collector stands for; each of these is settled
abbrev pub AreDumpLines : CollectorState → (ℕ → Option Bits) → List DumpLine → Type 0
AreDumpLines c flown lines = (w : World) → IsValid w → Represents c flown w → IsSettled w × IsDump w lines

-- in each world that a collector stands for, a zone is being prepared or marking
abbrev pub IsNowhereSettled : CollectorState → (ℕ → Option Bits) → Type 0
IsNowhereSettled c flown = (w : World) → Represents c flown w → IsSettled w → ⊥
