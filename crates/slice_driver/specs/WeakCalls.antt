-- What the calls of a session on weak slots and watched cells do.
use Rattle.std.specs.Prelude.{◌≡◌, ◌≤◌, ◌⊎◌, ℕ, [], Option, Some, Result, Ok, Err}
use Rattle.gz_names.specs.declared.commands.WeakCmd.{WeakCmd}
use Rattle.gz_names.specs.declared.commands.WeakCmd.TheVariants as cmd
use Rattle.gz_names.specs.declared.replies.CmdFault.{CmdFault}
use Rattle.gz_names.specs.declared.replies.CmdFault.TheVariants as fault
use Rattle.gz_names.specs.declared.replies.Refusal.{Refusal}
use Rattle.gz_names.specs.declared.replies.Refusal.TheVariants as refusal
use Rattle.gz_names.specs.declared.replies.Reply.{Reply}
use Rattle.cell_bits.specs.declared.bits.Bits.{Bits}
use Rattle.colour_defs.specs.Step.{named_or_null}
use Rattle.collection_laws.specs.Replies.{Says, accepted, accepted_or_absent}
use Rattle.slice_driver.specs.Accounts.{FreesOn}
use Rattle.slice_driver.specs.Sessions.{SessionState, counted_in, outcome_of}
use Rattle.slice_driver.specs.UnitsToCome.{units_to_come}
use Rattle.slice_driver.specs.WeakCommands.{DoesWeak, WantsWeakMemory}
use Rattle.slice_driver.specs.declared.session.SessionFault.{SessionFault}

-- a reply that this command may have, where it is not refused
abbrev pub IsWeakReplyTo : WeakCmd → Reply → Type 0
IsWeakReplyTo (cmd.Weaken q r) answer = Says accepted answer
IsWeakReplyTo (cmd.Deref r q) answer = Says named_or_null answer
IsWeakReplyTo (cmd.Watch r) answer = Says accepted answer
IsWeakReplyTo (cmd.Unwatch r) answer = Says accepted_or_absent answer

-- why it may fail: only where a register is empty is one refused, and only `Watch` wants memory
abbrev pub MayFail : WeakCmd → CmdFault → Type 0
MayFail (cmd.Weaken q r) why = ⊥
MayFail (cmd.Deref r q) why = ⊥
MayFail (cmd.Watch r) why = (why ≡ fault.Refused refusal.Empty) ⊎ (why ≡ fault.NoMemory)
MayFail (cmd.Unwatch r) why = why ≡ fault.Refused refusal.Empty

-- so it has one of these outcomes
abbrev pub IsOutcome : WeakCmd → Result Reply CmdFault → Type 0
IsOutcome c (Ok answer) = IsWeakReplyTo c answer
IsOutcome c (Err why) = MayFail c why

-- a weak command had this outcome
pub record WeakCalled {S : Type 0} (bits_of : S → ℕ → Option Bits) (old : SessionState S) (c : WeakCmd)
    (outcome : Result Reply CmdFault) (new : SessionState S) : Type 0 where
  pub outcome_is : IsOutcome c outcome
  pub done : DoesWeak old.collector (bits_of old.sweeper) c outcome new.collector (bits_of new.sweeper)
  pub to_come : units_to_come new.collector (bits_of new.sweeper) ≤ units_to_come old.collector (bits_of old.sweeper)
  pub accounts : FreesOn old.collector (bits_of old.sweeper) [] new.collector (bits_of new.sweeper)
  pub refused : (why : Refusal) → outcome ≡ Err (fault.Refused why)
      → (new.collector ≡ counted_in old.collector new.collector.heap.ledger)
      × (bits_of new.sweeper ≡ bits_of old.sweeper)
  pub wanted : outcome ≡ Err fault.NoMemory
      → WantsWeakMemory (counted_in old.collector new.collector.heap.ledger) (bits_of old.sweeper) c new.collector
      (bits_of new.sweeper)
  pub run : new.collector.run ≡ old.collector.run
  pub report : new.report ≡ old.report

-- so a call returned that it had
abbrev pub WeakReturns : {S : Type 0} → (S → ℕ → Option Bits) → SessionState S → WeakCmd → Result Reply SessionFault
    → SessionState S → Type 0
WeakReturns bits_of old c result new =
    (outcome : Result Reply CmdFault) × (outcome_of result ≡ Some outcome) × WeakCalled bits_of old c outcome new
