-- Which numbers a session has given, and which its reports have listed as freed.
use Rattle.std.specs.Prelude.{ℕ, List, [], ◌++◌, Option, Some, None, Result, Ok, Err}
use Rattle.gz_names.specs.declared.names.Name.{Name}
use Rattle.gz_names.specs.declared.replies.Reply.{Reply}
use Rattle.gz_names.specs.declared.replies.Report.{Report}
use Rattle.cell_bits.specs.declared.bits.Bits.{Bits}
use Rattle.colour_defs.specs.Laws.{IsValid}
use Rattle.colour_defs.specs.World.{World}
use Rattle.collection_laws.specs.Numbers.{GivesNext, IsAccounted, given_after}
use Rattle.slice_driver.specs.Collector.{CollectorState}
use Rattle.slice_driver.specs.Represents.{Represents}
use Rattle.slice_driver.specs.Sessions.{names_of}
use Rattle.slice_driver.specs.declared.session.SessionFault.{SessionFault}
use Rattle.slice_driver.specs.declared.session.told.SessionReport.{SessionReport}
use Rattle.slice_driver.specs.declared.session.told.SessionReport.TheVariants as told
use Rattle.slice_driver.specs.declared.session.told.SessionStep.{SessionStep}

-- the collector stands for a world in which the numbers below this one were given, and reports listed these names as
-- freed: the cell of each number that was given is there, or waits to be swept, or was listed, and is listed once
pub record Accounts (c : CollectorState) (flown : ℕ → Option Bits) (given : ℕ) (freed : List Name) : Type 0 where
  pub world : World
  pub valid : IsValid world
  pub represents : Represents c flown world
  pub accounted : IsAccounted world given freed

-- a command that makes a cell gives the next number
abbrev pub TellsNext : ℕ → Result Reply SessionFault → Type 0
TellsNext given (Ok answer) = GivesNext given answer
TellsNext given (Err why) = Unit {0}

-- how many numbers were given after a command
abbrev pub given_with : ℕ → Result Reply SessionFault → ℕ
given_with given (Ok answer) = given_after given answer
given_with given (Err why) = given

-- a command gives the next number or none, and frees nothing
abbrev pub GivesOn : CollectorState → (ℕ → Option Bits) → Result Reply SessionFault → CollectorState
    → (ℕ → Option Bits) → Type 0
GivesOn old flown result new flying = (given : ℕ) (freed : List Name) → Accounts old flown given freed
    → TellsNext given result × Accounts new flying (given_with given result) freed

-- no number was given, and these names were listed as freed
abbrev pub FreesOn : CollectorState → (ℕ → Option Bits) → List Name → CollectorState → (ℕ → Option Bits) → Type 0
FreesOn old flown names new flying = (given : ℕ) (freed : List Name) → Accounts old flown given freed
    → Accounts new flying given (freed ++ names)

-- what a step lists as freed, where this is the last report
abbrev pub freed_by_report : Option SessionReport → Option Report → List Name
freed_by_report None now = []
freed_by_report (Some told.Started) now = []
freed_by_report (Some told.Groups) now = []
freed_by_report (Some (told.Ended zones)) now = []
freed_by_report (Some (told.Swept arena)) now = names_of now
freed_by_report (Some (told.Stopped zones)) now = []

abbrev pub freed_by : {E : Type 0} → Result SessionStep E → Option Report → List Name
freed_by (Ok step) now = freed_by_report step.report now
freed_by (Err why) now = []
