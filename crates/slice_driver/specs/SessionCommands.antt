-- What a session does by a command, whoever asks for it.
use Rattle.std.specs.Prelude.{◌≡◌, ◌≤◌, ℕ, false, Option, Result, Err, IfOk, IfSome}
use Rattle.gz_names.specs.declared.commands.GraphCmd.{GraphCmd}
use Rattle.gz_names.specs.declared.replies.Refusal.{Refusal}
use Rattle.gz_names.specs.declared.replies.Reply.{Reply}
use Rattle.cell_bits.specs.declared.bits.Bits.{Bits}
use Rattle.collection_laws.specs.Replies.{IsReplyTo}
use Rattle.heap_core.specs.Effects.{takes_memory}
use Rattle.slice_driver.specs.Accounts.{GivesOn}
use Rattle.slice_driver.specs.Commands.{WantsMemory}
use Rattle.slice_driver.specs.Sessions.{SessionState, counted_in, outcome_of}
use Rattle.slice_driver.specs.Units.{DoesCommand, RaisesWithin}
use Rattle.slice_driver.specs.declared.session.SessionFault.{SessionFault}
use Rattle.slice_driver.specs.declared.session.SessionFault.TheVariants as session

-- what a session does by a command, with each of its results
pub record SessionDoes {S : Type 0} (bits_of : S → ℕ → Option Bits) (cmd : GraphCmd)
    (result : Result Reply SessionFault) (old new : SessionState S) : Type 0 where
  -- what it did in each world, and what it left of the bound on units
  pub done : IfSome (outcome_of result) (λ outcome. DoesCommand old.collector (bits_of old.sweeper) cmd outcome
      new.collector (bits_of new.sweeper))
  pub to_come : IfSome (outcome_of result) (λ outcome. RaisesWithin
      (counted_in old.collector new.collector.heap.ledger) (bits_of old.sweeper) cmd outcome new.collector
      (bits_of new.sweeper))
  -- the reply is one to this command, and a number that it gives is the next one
  pub says : IfOk result (IsReplyTo cmd)
  pub accounts : GivesOn old.collector (bits_of old.sweeper) result new.collector (bits_of new.sweeper)
  -- a refusal changes nothing
  pub refused : (why : Refusal) → result ≡ Err (session.Refused why)
      → (new.collector ≡ counted_in old.collector new.collector.heap.ledger)
      × (bits_of new.sweeper ≡ bits_of old.sweeper)
  -- memory runs out only at a command that is not refused, and that makes something
  pub wanted : result ≡ Err session.NoMemory → WantsMemory (counted_in old.collector new.collector.heap.ledger)
      (bits_of old.sweeper) cmd new.collector (bits_of new.sweeper)
  pub sure : takes_memory cmd ≡ false → result ≡ Err session.NoMemory → ⊥
  -- a session is full only when the most cells were made, and nothing was done then
  pub full : result ≡ Err session.Full → (new ≡ old) × (4294967295 ≤ old.collector.heap.made)
  -- no collection begins or ends, and the last report stays
  pub run : new.collector.run ≡ old.collector.run
  pub report : new.report ≡ old.report
