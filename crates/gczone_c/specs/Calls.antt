-- What calls from C do with what a handle leads to, and what C gets: what the calls of `Session` promise, and that the
-- lists beside the session stay.
use Rattle.std.specs.Prelude.{◌≡◌, ◌↔◌, ◌⊎◌, ℕ, Option, None, Some, Result, Ok, Err}
use Rattle.std.specs.Prelude.{List, [], IfOk, IfSome, IsSome, OnErr, OnOk, length, nat_lt, ◌==◌, if◌then◌else◌}
use Rattle.std.specs.declared.alloc.AllocError.{AllocError}
use Rattle.gz_names.specs.Zones.{HasZone}
use Rattle.gz_names.specs.declared.commands.GraphCmd.{GraphCmd}
use Rattle.gz_names.specs.declared.commands.WeakCmd.{WeakCmd}
use Rattle.gz_names.specs.declared.dumps.DumpLine.{DumpLine}
use Rattle.gz_names.specs.declared.names.Name.{Name}
use Rattle.gz_names.specs.declared.names.Name.TheVariants as name
use Rattle.gz_names.specs.declared.numbers.CompNo.{CompNo}
use Rattle.colour_defs.specs.World.{World, first_world}
use Rattle.compact.specs.declared.Compacted.{Compacted}
use Rattle.sweeping.specs.ArenasOut.{flown_by, outs_of}
use Rattle.slice_driver.specs.Accounts.{Accounts, FreesOn, freed_by, freed_by_report}
use Rattle.slice_driver.specs.Begins.{AreMade}
use Rattle.slice_driver.specs.Collector.{CollectorState}
use Rattle.slice_driver.specs.Compacting.{CompactCalled}
use Rattle.slice_driver.specs.Pins.{PinCalled, RootCalled}
use Rattle.slice_driver.specs.Represents.{Represents}
use Rattle.slice_driver.specs.SessionCommands.{SessionDoes}
use Rattle.slice_driver.specs.Sessions.{AreDumpLines, AreGrayNames, IsNextGray, IsNowhereSettled}
use Rattle.slice_driver.specs.Sessions.{SessionResets, SessionSteps, as_reply, counted_in, replied}
use Rattle.slice_driver.specs.Units.{BeginsIn, BeginsWithin}
use Rattle.slice_driver.specs.WeakCalls.{WeakReturns}
use Rattle.slice_driver.specs.Working.{IsStill, MayWantMemory}
use Rattle.slice_driver.specs.declared.begin.BeginFault.{BeginFault}
use Rattle.slice_driver.specs.declared.begin.BeginFault.TheVariants as begin
use Rattle.slice_driver.specs.declared.compacting.CompactFault.{CompactFault}
use Rattle.slice_driver.specs.declared.pinned.NotPinned.{NotPinned}
use Rattle.slice_driver.specs.declared.session.SessionFault.{SessionFault}
use Rattle.slice_driver.specs.declared.session.told.SessionReply.{SessionReply}
use Rattle.slice_driver.specs.declared.session.told.SessionReply.TheVariants as reply
use Rattle.slice_driver.specs.declared.session.told.SessionReport.{SessionReport}
use Rattle.slice_driver.specs.declared.session.told.SessionReport.TheVariants as report
use Rattle.slice_driver.specs.declared.session.told.SessionStep.{SessionStep}
use Rattle.gczone_c.specs.Statuses.{begin_status, command_status, compact_status, list_status, next_status}
use Rattle.gczone_c.specs.Statuses.{pin_status, root_status, step_status}
use Rattle.gczone_c.specs.declared.told.Answer.{Answer}
use Rattle.gczone_c.specs.declared.told.CompactedTold.{CompactedTold}
use Rattle.gczone_c.specs.declared.told.StepDone.{StepDone}
use Rattle.gczone_c.specs.declared.handle.Gcz.{Gcz}
use Rattle.gczone_c.specs.declared.held.Held.{Held}

-- a compartment by its number
abbrev pub comp_no : ℕ → CompNo
comp_no n = record { 0 = n }

-- what a handle leads to goes over by a call; a closed handle stays closed, and the status says so
abbrev pub GoesOver : Type 0 → (Held → Held → Type 0) → Option Held → Option Held → Type 0
GoesOver Closed P None None = Closed
GoesOver Closed P (Some old) (Some new) = P old new
GoesOver Closed P None (Some new) = ⊥
GoesOver Closed P (Some old) None = ⊥

abbrev pub Goes : Type 0 → (Held → Held → Type 0) → Gcz → Gcz → Type 0
Goes Closed P old new = GoesOver Closed P old.slot.held new.slot.held

-- the handle is closed: that is the status, and nothing is written
abbrev pub IsClosed : {T : Type 0} → ℕ → T → T → Type 0
IsClosed status before after = (status ≡ 1) × (after ≡ before)

-- a number is out of range: this status is returned, and nothing was done
abbrev pub IsUndone : ℕ → ℕ → Gcz → Gcz → Type 0
IsUndone fault status old new = (status ≡ fault) × (new.slot.held ≡ old.slot.held)

-- likewise, and nothing is written
abbrev pub IsRefused : {T : Type 0} → ℕ → ℕ → Gcz → Gcz → T → T → Type 0
IsRefused fault status old new before after = (status ≡ fault) × (new.slot.held ≡ old.slot.held) × (after ≡ before)

-- a handle is opened: it leads to a session of the first world; or there is no memory, and it stays closed; or it was
-- open, and leads to what it led to
abbrev pub OpensOver : ℕ → Option Held → Option Held → Type 0
OpensOver status None None = status ≡ 3
OpensOver status None (Some new) = (status ≡ 0)
    × Represents new.session.collector (flown_by new.session.sweeper) first_world
    × (new.session.collector.run ≡ None) × (new.session.report ≡ None)
    × Accounts new.session.collector (flown_by new.session.sweeper) 0 []
OpensOver status (Some old) (Some new) = (status ≡ 2) × (new ≡ old)
OpensOver status (Some old) None = ⊥

abbrev pub Opens : ℕ → Gcz → Gcz → Type 0
Opens status old new = OpensOver status old.slot.held new.slot.held

-- the lists that were last asked for stay
abbrev pub KeepsLists : Held → Held → Type 0
KeepsLists old new = (new.grays ≡ old.grays) × (new.lines ≡ old.lines)

-- no name
abbrev pub no_name : Answer
no_name = record { number = 0; kind = 0; compartment = 0 }

-- a name, as C sees it
abbrev pub name_told : Name → Answer
name_told (name.Cell n) = record { number = n; kind = 1; compartment = 0 }
name_told (name.Wrap c n) = record { number = n; kind = 2; compartment = c.0 }

-- the name that C gives, if it gives one: a cell, or a wrapper in a compartment below 256; else the status of the
-- number that is out of range
abbrev pub name_asked : Answer → Result (Option Name) ℕ
name_asked given =
    if given.kind == 0 then Ok None
    else (if given.kind == 1 then Ok (Some (name.Cell given.number))
    else (if given.kind == 2 then (if nat_lt given.compartment 256
    then Ok (Some (name.Wrap (comp_no given.compartment) given.number)) else Err 10) else Err 14))

-- what C gets by a reply, where it had something else before
abbrev pub answer_told : SessionReply → Answer → Answer
answer_told (reply.Zone z) before = record { number = z; kind = 3; compartment = 0 }
answer_told (reply.Comp c) before = record { number = c.0; kind = 4; compartment = 0 }
answer_told (reply.Made n) before = record { number = n; kind = 1; compartment = 0 }
answer_told (reply.Named x) before = name_told x
answer_told reply.Null before = no_name
answer_told reply.Accepted before = no_name
answer_told reply.Absent before = before

abbrev pub command_told : Result SessionReply SessionFault → Answer → Answer
command_told (Ok r) before = answer_told r before
command_told (Err why) before = before

-- a session did a command with this result, and C gets it
pub record CommandDone (cmd : GraphCmd) (before after : Answer) (status : ℕ) (old new : Held) : Type 0 where
  pub result : Result SessionReply SessionFault
  pub does : SessionDoes flown_by cmd (replied as_reply result) old.session new.session
  pub lists : KeepsLists old new
  pub status_is : status ≡ command_status result
  pub answer_is : after ≡ command_told result before

-- likewise where C gets no answer
abbrev pub OrderDone : GraphCmd → ℕ → Held → Held → Type 0
OrderDone cmd status old new = (after : Answer) × CommandDone cmd no_name after status old new

-- the command of a call is done, if the handle is open
abbrev pub Does : GraphCmd → ℕ → Gcz → Gcz → Answer → Answer → Type 0
Does cmd status old new before after = Goes (IsClosed status before after) (CommandDone cmd before after status) old new

abbrev pub DoesOrder : GraphCmd → ℕ → Gcz → Gcz → Type 0
DoesOrder cmd status old new = Goes (status ≡ 1) (OrderDone cmd status) old new

-- a session did a command on weak slots and watched cells with this result, and C gets it
pub record WeakCommandDone (cmd : WeakCmd) (before after : Answer) (status : ℕ) (old new : Held) : Type 0 where
  pub result : Result SessionReply SessionFault
  pub does : WeakReturns flown_by old.session cmd (replied as_reply result) new.session
  pub lists : KeepsLists old new
  pub status_is : status ≡ command_status result
  pub answer_is : after ≡ command_told result before

-- likewise where C gets no answer
abbrev pub WeakOrderDone : WeakCmd → ℕ → Held → Held → Type 0
WeakOrderDone cmd status old new = (after : Answer) × WeakCommandDone cmd no_name after status old new

-- the command of a call is done, if the handle is open
abbrev pub DoesWeak : WeakCmd → ℕ → Gcz → Gcz → Answer → Answer → Type 0
DoesWeak cmd status old new before after =
    Goes (IsClosed status before after) (WeakCommandDone cmd before after status) old new

abbrev pub DoesWeakOrder : WeakCmd → ℕ → Gcz → Gcz → Type 0
DoesWeakOrder cmd status old new = Goes (status ≡ 1) (WeakOrderDone cmd status) old new

-- what C gets of a root that is pinned
abbrev pub root_told : {E : Type 0} → Result ℕ E → ℕ → ℕ
root_told (Ok root) before = root
root_told (Err why) before = before

-- a session was asked to pin what a register holds, with this result, and C gets the number of the root
pub record PinDone (register before after : ℕ) (status : ℕ) (old new : Held) : Type 0 where
  pub result : Result ℕ SessionFault
  pub done : PinCalled flown_by old.session register result new.session
  pub lists : KeepsLists old new
  pub status_is : status ≡ pin_status result
  pub root_is : after ≡ root_told result before

-- a session was asked to do this with a pinned root, with this result
pub record RootDone (Does : World → World → Type 0) (root : ℕ) (status : ℕ) (old new : Held) : Type 0 where
  pub result : Result Unit NotPinned
  pub done : RootCalled flown_by Does old.session root result new.session
  pub lists : KeepsLists old new
  pub status_is : status ≡ root_status result

-- what C gets of a compaction
abbrev pub compacted_told : Result Compacted CompactFault → CompactedTold → CompactedTold
compacted_told (Ok done) before = record { moved = done.moved; given_up = done.given_up }
compacted_told (Err why) before = before

-- a session was asked to compact a zone, with this result, which C gets
pub record ZoneCompacted (zone : ℕ) (before after : CompactedTold) (status : ℕ) (old new : Held) : Type 0 where
  pub result : Result Compacted CompactFault
  pub done : CompactCalled flown_by old.session zone result new.session
  pub lists : KeepsLists old new
  pub status_is : status ≡ compact_status result
  pub told_is : after ≡ compacted_told result before

-- a session was asked to begin a collection of these zones, with this result
pub record BeginDone (zones : ℕ) (status : ℕ) (old new : Held) : Type 0 where
  pub result : Result Unit BeginFault
  pub begun : OnOk result (BeginsIn old.session.collector zones new.session.collector)
  pub within : OnOk result (BeginsWithin old.session.collector zones new.session.collector)
  pub running : (result ≡ Err begin.Running) ↔ IsSome old.session.collector.run
  pub no_zone : (result ≡ Err begin.NoZone) ↔ ((old.session.collector.run ≡ None)
      × (((z : ℕ) → HasZone zones z → ⊥) ⊎ (AreMade old.session.collector.heap.shape (record { bits = zones }) → ⊥)))
  pub refused : OnErr result (new.session.collector ≡ old.session.collector)
  pub sweeper : new.session.sweeper ≡ old.session.sweeper
  pub report : new.session.report ≡ old.session.report
  pub accounts : FreesOn old.session.collector (flown_by old.session.sweeper) [] new.session.collector
      (flown_by new.session.sweeper)
  pub lists : KeepsLists old new
  pub status_is : status ≡ begin_status result

-- the kind of a report
abbrev pub report_kind : Option SessionReport → ℕ
report_kind None = 0
report_kind (Some report.Groups) = 1
report_kind (Some (report.Ended zones)) = 2
report_kind (Some (report.Swept arena)) = 3
report_kind (Some report.Started) = 4
report_kind (Some (report.Stopped zones)) = 5

-- a step, as C sees it
abbrev pub done_told : SessionStep → StepDone
done_told step = record { units = step.units; report = report_kind step.report; finished = step.finished }

-- what C gets of a step
abbrev pub step_told : {E : Type 0} → Result SessionStep E → StepDone → StepDone
step_told (Ok step) before = done_told step
step_told (Err why) before = before

-- a session was asked for a step of its collection, with this result, which C gets
pub record AdvanceDone (limit : ℕ) (before after : StepDone) (status : ℕ) (old new : Held) : Type 0 where
  pub result : Result SessionStep AllocError
  pub steps : IfOk result (λ step. SessionSteps limit old.session.collector (flown_by old.session.sweeper)
      old.session.report step new.session.collector (flown_by new.session.sweeper) (outs_of new.session.sweeper)
      new.session.report)
  pub err : OnErr result (IsStill (counted_in old.session.collector new.session.collector.heap.ledger)
      (flown_by old.session.sweeper) new.session.collector (flown_by new.session.sweeper))
  pub err_where : OnErr result (MayWantMemory
      (counted_in old.session.collector new.session.collector.heap.ledger) (flown_by old.session.sweeper))
  pub err_report : OnErr result (new.session.report ≡ old.session.report)
  pub accounts : FreesOn old.session.collector (flown_by old.session.sweeper)
      (freed_by result new.session.report) new.session.collector (flown_by new.session.sweeper)
  pub lists : KeepsLists old new
  pub status_is : status ≡ step_status result
  pub told_is : after ≡ step_told result before

-- a session was asked for a step of giving its collection up, which it did, and C gets it
pub record ResetDone (after : StepDone) (status : ℕ) (old new : Held) : Type 0 where
  pub step : SessionStep
  pub resets : SessionResets old.session.collector (flown_by old.session.sweeper) old.session.report step
      new.session.collector (flown_by new.session.sweeper) (outs_of new.session.sweeper) new.session.report
  pub accounts : FreesOn old.session.collector (flown_by old.session.sweeper)
      (freed_by_report step.report new.session.report) new.session.collector (flown_by new.session.sweeper)
  pub lists : KeepsLists old new
  pub status_is : status ≡ 0
  pub told_is : after ≡ done_told step

-- a list was asked for: what stays of the session, whose collector is this one then
pub record StaysListed (collector : CollectorState) (old new : Held) : Type 0 where
  pub collector_is : new.session.collector ≡ collector
  pub worlds : (w : World) → Represents old.session.collector (flown_by old.session.sweeper) w
      → Represents new.session.collector (flown_by new.session.sweeper) w
  pub report : new.session.report ≡ old.session.report

abbrev pub count_told : {T E : Type 0} → Result (Option T) E → (T → ℕ) → ℕ → ℕ
count_told (Ok (Some items)) count before = count items
count_told (Ok None) count before = before
count_told (Err why) count before = before

abbrev pub list_kept : {T E : Type 0} → Result (Option T) E → T → T
list_kept (Ok (Some items)) before = items
list_kept (Ok None) before = before
list_kept (Err why) before = before

-- the gray names were asked for, with this result: they are listed, or the list is as it was
pub record GraysListed (before count : ℕ) (status : ℕ) (old new : Held) : Type 0 where
  pub result : Result (Option (List Name)) AllocError
  pub names : IfOk result (λ names. IfSome names
      (AreGrayNames old.session.collector (flown_by old.session.sweeper)))
  pub marking : IfOk result (λ names. names ≡ None
      → IsNowhereSettled old.session.collector (flown_by old.session.sweeper))
  pub stays : StaysListed old.session.collector old new
  pub list_is : new.grays ≡ list_kept result old.grays
  pub lines : new.lines ≡ old.lines
  pub status_is : status ≡ list_status result
  pub count_is : count ≡ count_told result length before

-- what C gets of the next gray name
abbrev pub next_told : Option (Option Name) → Answer → Answer
next_told (Some (Some x)) before = name_told x
next_told (Some None) before = before
next_told None before = before

-- the first gray name behind another one was asked for, with this result, and C gets it
pub record NextGrayTold (asked : Option Name) (before after : Answer) (status : ℕ) (old new : Held) : Type 0 where
  pub result : Option (Option Name)
  pub gray : IfSome result (IsNextGray old.session.collector (flown_by old.session.sweeper) asked)
  pub marking : result ≡ None → IsNowhereSettled old.session.collector (flown_by old.session.sweeper)
  pub stays : StaysListed old.session.collector old new
  pub lists : KeepsLists old new
  pub status_is : status ≡ next_status result
  pub answer_is : after ≡ next_told result before

-- a dump was asked for, with this result: its lines are listed, or the list is as it was
pub record LinesListed (before count : ℕ) (status : ℕ) (old new : Held) : Type 0 where
  pub result : Result (Option (List DumpLine)) AllocError
  pub dump : IfOk result (λ lines. IfSome lines
      (AreDumpLines old.session.collector (flown_by old.session.sweeper)))
  pub marking : IfOk result (λ lines. lines ≡ None
      → IsNowhereSettled old.session.collector (flown_by old.session.sweeper))
  pub stays : StaysListed (counted_in old.session.collector new.session.collector.heap.ledger) old new
  pub list_is : new.lines.items ≡ list_kept result old.lines.items
  pub grays : new.grays ≡ old.grays
  pub status_is : status ≡ list_status result
  pub count_is : count ≡ count_told result length before
