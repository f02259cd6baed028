-- The outcomes that commands on weak slots and watched cells may have.
use Rattle.std.proofs.Common.{◌≡◌, ℕ, Bool, true, false, cond, refl, sym, ap, subst, inl, inr, Option, Some, None}
use Rattle.std.proofs.Common.{Result, Ok, Err, IfOk}
use Rattle.std.specs.FinSet as set
use Rattle.gz_names.specs.declared.names.Name.{Name}
use Rattle.gz_names.specs.declared.commands.WeakCmd.{WeakCmd}
use Rattle.gz_names.specs.declared.commands.WeakCmd.TheVariants as cmd
use Rattle.gz_names.specs.declared.replies.CmdFault.{CmdFault}
use Rattle.gz_names.specs.declared.replies.CmdFault.TheVariants as fault
use Rattle.gz_names.specs.declared.replies.Refusal.{Refusal}
use Rattle.gz_names.specs.declared.replies.Reply.{Reply}
use Rattle.gz_names.specs.declared.replies.Reply.TheVariants as reply
use Rattle.cell_bits.specs.declared.bits.Bits.{Bits}
use Rattle.collection_laws.specs.Replies.{Says, accepted, accepted_or_absent}
use Rattle.colour_defs.specs.Graph.{register_cell}
use Rattle.colour_defs.specs.Laws.{IsValid}
use Rattle.colour_defs.specs.Step.{named_or_null, refusal_in}
use Rattle.colour_defs.specs.WeakRefs.{unwatch_cell, watch_cell, weak_cell, without_watched}
use Rattle.colour_defs.specs.World.{World}
use Rattle.slice_driver.specs.Collector.{CollectorState}
use Rattle.slice_driver.specs.Represents.{Represents}
use Rattle.slice_driver.specs.Sessions.{outcome_of}
use Rattle.slice_driver.specs.Units.{IsSound}
use Rattle.slice_driver.specs.WeakCalls.{IsOutcome, IsWeakReplyTo, MayFail}
use Rattle.slice_driver.specs.WeakCommands.{DoesWeak, WatchesNew}
use Rattle.slice_driver.specs.declared.session.SessionFault.{SessionFault}
use Rattle.slice_driver.specs.declared.session.SessionFault.TheVariants as session
use Rattle.slice_driver.proofs.abstraction.Named.{some_one}

-- what a register holds decides what a watch comes to
watch_reply : (w : World) (a : Reply) → refusal_in a ≡ None → (o : Option Name) → a ≡ (watch_cell w o).1
    → Says accepted a
watch_reply w a not None is = absurd (let refused = ap refusal_in is in cc (not, refused))
watch_reply w a not (Some x) is = (tt, is)

watch_refused : (w : World) (r : ℕ) (why : Refusal) (o : Option Name) → reply.Refused why ≡ (watch_cell w o).1
    → MayFail (cmd.Watch r) (fault.Refused why)
watch_refused w r why None is = inl (cc is)
watch_refused w r why (Some x) is = absurd (cc is)

-- and what an end of watching comes to
unwatch_reply : (w : World) (a : Reply) → refusal_in a ≡ None → (o : Option Name) → a ≡ (unwatch_cell w o).1
    → Says accepted_or_absent a
unwatch_reply w a not None is = absurd (let refused = ap refusal_in is in cc (not, refused))
unwatch_reply w a not (Some x) is = by (set.contains w.weak.watched x) is
  where
    by : (b : Bool) → a ≡ (cond {A = World × Reply} b (without_watched w x, reply.Accepted) (w, reply.Absent)).1
        → Says accepted_or_absent a
    by true e = (true, e)
    by false e = (false, e)

unwatch_refused : (w : World) (r : ℕ) (why : Refusal) (o : Option Name) → reply.Refused why ≡ (unwatch_cell w o).1
    → MayFail (cmd.Unwatch r) (fault.Refused why)
unwatch_refused w r why None is = cc is
unwatch_refused w r why (Some x) is = by (set.contains w.weak.watched x) is
  where
    by : (b : Bool) → reply.Refused why
        ≡ (cond {A = World × Reply} b (without_watched w x, reply.Accepted) (w, reply.Absent)).1
        → MayFail (cmd.Unwatch r) (fault.Refused why)
    by true e = absurd (cc e)
    by false e = absurd (cc e)

named_refused : (why : Refusal) (o : Option Name) → reply.Refused why ≡ named_or_null o → ⊥
named_refused why None is = cc is
named_refused why (Some x) is = cc is

-- in each world that a collector stands for, a command watches a new cell
abbrev Watches : CollectorState → (ℕ → Option Bits) → WeakCmd → Type 0
Watches c f k = (w : World) → IsValid w → Represents c f w → WatchesNew w k

pub weak_outcome : (c : CollectorState) (f : ℕ → Option Bits) (k : WeakCmd) (r : Result Reply CmdFault)
    (d : CollectorState) (g : ℕ → Option Bits) → IsSound c f → DoesWeak c f k r d g
    → IfOk r (λ a. refusal_in a ≡ None) → (r ≡ Err fault.NoMemory → Watches c f k) → IsOutcome k r
weak_outcome c f (cmd.Weaken q r) (Ok a) d g s does answered wanted =
    let did = does s.world s.valid s.represents in (tt, did.1.0)
weak_outcome c f (cmd.Weaken q r) (Err (fault.Refused why)) d g s does answered wanted =
    let did = does s.world s.valid s.represents in let is = did.0.0 in cc is
weak_outcome c f (cmd.Weaken q r) (Err fault.NoMemory) d g s does answered wanted =
    wanted refl s.world s.valid s.represents
weak_outcome c f (cmd.Deref r q) (Ok a) d g s does answered wanted =
    let did = does s.world s.valid s.represents in (weak_cell s.world q, did.1.0)
weak_outcome c f (cmd.Deref r q) (Err (fault.Refused why)) d g s does answered wanted =
    let did = does s.world s.valid s.represents in named_refused why (weak_cell s.world q) did.0.0
weak_outcome c f (cmd.Deref r q) (Err fault.NoMemory) d g s does answered wanted =
    wanted refl s.world s.valid s.represents
weak_outcome c f (cmd.Watch r) (Ok a) d g s does answered wanted =
    let did = does s.world s.valid s.represents in
    watch_reply s.world a answered (register_cell s.world.graph r) did.1.0
weak_outcome c f (cmd.Watch r) (Err (fault.Refused why)) d g s does answered wanted =
    let did = does s.world s.valid s.represents in
    watch_refused s.world r why (register_cell s.world.graph r) did.0.0
weak_outcome c f (cmd.Watch r) (Err fault.NoMemory) d g s does answered wanted = inr refl
weak_outcome c f (cmd.Unwatch r) (Ok a) d g s does answered wanted =
    let did = does s.world s.valid s.represents in
    unwatch_reply s.world a answered (register_cell s.world.graph r) did.1.0
weak_outcome c f (cmd.Unwatch r) (Err (fault.Refused why)) d g s does answered wanted =
    let did = does s.world s.valid s.represents in
    unwatch_refused s.world r why (register_cell s.world.graph r) did.0.0
weak_outcome c f (cmd.Unwatch r) (Err fault.NoMemory) d g s does answered wanted =
    absurd (wanted refl s.world s.valid s.represents)

-- a command that never fails has no fault
pub never_fails : (k : WeakCmd) → ((why : CmdFault) → MayFail k why → ⊥) → (why : SessionFault)
    (outcome : Result Reply CmdFault) → outcome_of (Err why) ≡ Some outcome → IsOutcome k outcome → ⊥
never_fails k never (session.Refused why) outcome told is =
    never (fault.Refused why) (subst (IsOutcome k) (sym (some_one (Err (fault.Refused why)) outcome told)) is)
never_fails k never session.NoMemory outcome told is =
    never fault.NoMemory (subst (IsOutcome k) (sym (some_one (Err fault.NoMemory) outcome told)) is)
never_fails k never session.Full outcome told is = cc told

-- what a command replied is a reply to it
pub replies_so : (k : WeakCmd) (answer : Reply) (outcome : Result Reply CmdFault)
    → outcome_of (Ok answer) ≡ Some outcome → IsOutcome k outcome → IsWeakReplyTo k answer
replies_so k answer outcome told is = subst (IsOutcome k) (sym (some_one (Ok answer) outcome told)) is
