-- What a call returns: a number for each way in which it can end.
use Rattle.std.specs.Prelude.{ℕ, Result, Ok, Err, Option, Some, None}
use Rattle.gz_names.specs.declared.replies.Refusal.{Refusal}
use Rattle.gz_names.specs.declared.replies.Refusal.TheVariants as why
use Rattle.slice_driver.specs.declared.begin.BeginFault.{BeginFault}
use Rattle.slice_driver.specs.declared.begin.BeginFault.TheVariants as begin
use Rattle.slice_driver.specs.declared.compacting.CompactFault.{CompactFault}
use Rattle.slice_driver.specs.declared.compacting.CompactFault.TheVariants as compact
use Rattle.slice_driver.specs.declared.session.SessionFault.{SessionFault}
use Rattle.slice_driver.specs.declared.session.SessionFault.TheVariants as session
use Rattle.slice_driver.specs.declared.session.told.SessionReply.{SessionReply}
use Rattle.slice_driver.specs.declared.session.told.SessionReply.TheVariants as reply

abbrev pub refusal_status : Refusal → ℕ
refusal_status why.Full = 16
refusal_status why.NoZone = 17
refusal_status why.NoComp = 18
refusal_status why.Empty = 19
refusal_status why.Kind = 20
refusal_status why.NoField = 21
refusal_status why.Cross = 22
refusal_status why.Running = 24
refusal_status why.Idle = 25
refusal_status why.Marking = 26

abbrev pub reply_status : SessionReply → ℕ
reply_status (reply.Zone z) = 0
reply_status (reply.Comp c) = 0
reply_status (reply.Made n) = 0
reply_status (reply.Named x) = 0
reply_status reply.Null = 0
reply_status reply.Accepted = 0
reply_status reply.Absent = 5

abbrev pub fault_status : SessionFault → ℕ
fault_status (session.Refused why) = refusal_status why
fault_status session.Full = 4
fault_status session.NoMemory = 3

abbrev pub command_status : Result SessionReply SessionFault → ℕ
command_status (Ok r) = reply_status r
command_status (Err why) = fault_status why

-- a cell was to be pinned
abbrev pub pin_status : {T : Type 0} → Result T SessionFault → ℕ
pin_status (Ok root) = 0
pin_status (Err why) = fault_status why

-- something was to be done with a pinned root
abbrev pub root_status : {T E : Type 0} → Result T E → ℕ
root_status (Ok done) = 0
root_status (Err why) = 27

abbrev pub begin_status : {T : Type 0} → Result T BeginFault → ℕ
begin_status (Ok done) = 0
begin_status (Err begin.Running) = 24
begin_status (Err begin.NoZone) = 17

abbrev pub compact_status : {T : Type 0} → Result T CompactFault → ℕ
compact_status (Ok done) = 0
compact_status (Err compact.Running) = 24
compact_status (Err compact.NoZone) = 17
compact_status (Err compact.NoMemory) = 3

abbrev pub step_status : {T E : Type 0} → Result T E → ℕ
step_status (Ok step) = 0
step_status (Err why) = 3

-- a list was asked for: there it is, or a zone is marking, or there is no memory
abbrev pub list_status : {T E : Type 0} → Result (Option T) E → ℕ
list_status (Ok (Some items)) = 0
list_status (Ok None) = 26
list_status (Err why) = 3

-- whether there is what was asked for
abbrev pub found_status : {T : Type 0} → Option T → ℕ
found_status (Some x) = 0
found_status None = 5

-- the next name of a list was asked for: there it is, or there is none, or a zone is marking
abbrev pub next_status : {T : Type 0} → Option (Option T) → ℕ
next_status (Some next) = found_status next
next_status None = 26
