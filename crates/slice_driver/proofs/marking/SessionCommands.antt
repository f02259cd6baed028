-- What a session does by a command, from what its collector does.
use Rattle.std.proofs.Common.{◌≡◌, ◌≤◌, ℕ, Option, Some, Result, Ok, Err, IfOk, IfSome, refl, sym, ap, ◌∙◌}
use Rattle.std.proofs.Common.{subst}
use Rattle.gz_names.specs.declared.commands.GraphCmd.{GraphCmd}
use Rattle.gz_names.specs.declared.replies.CmdFault.{CmdFault}
use Rattle.gz_names.specs.declared.replies.CmdFault.TheVariants as fault
use Rattle.gz_names.specs.declared.replies.Reply.{Reply}
use Rattle.cell_bits.specs.declared.bits.Bits.{Bits}
use Rattle.collection_laws.specs.Replies.{IsReplyTo}
use Rattle.slice_driver.specs.Calls.{CommandDone}
use Rattle.slice_driver.specs.Collector.{CollectorState}
use Rattle.slice_driver.specs.Commands.{WantsMemory}
use Rattle.slice_driver.specs.SessionCommands.{SessionDoes}
use Rattle.slice_driver.specs.Sessions.{SessionState, counted_in, outcome_of}
use Rattle.slice_driver.specs.Units.{DoesCommand, IsSound, RaisesWithin}
use Rattle.slice_driver.specs.declared.session.SessionFault.{SessionFault}
use Rattle.slice_driver.specs.declared.session.SessionFault.TheVariants as session
use Rattle.slice_driver.proofs.abstraction.Named.{some_one}
use Rattle.slice_driver.proofs.marking.Accounts.{gives_on}
use Rattle.slice_driver.proofs.marking.SessionReports.{says_reply}
use Rattle.slice_driver.proofs.marking.Sessions.{does_counted, in_ledger}

-- nothing is done where the most cells were made
pub session_full : {S : Type 0} (bits_of : S → ℕ → Option Bits) (cmd : GraphCmd) (s : SessionState S)
    → 4294967295 ≤ s.collector.heap.made → SessionDoes bits_of cmd (Err session.Full) s s
session_full bits_of cmd s full = record {
  done = tt;
  to_come = tt;
  says = tt;
  accounts = λ given freed a. (tt, a);
  refused = λ why is. absurd (cc is);
  wanted = λ is. absurd (cc is);
  sure = λ none is. absurd (cc is);
  full = λ is. (refl, full);
  run = refl;
  report = refl;
}

-- a session that stood for a world did a command over its collector, whose edges were counted in a ledger
pub record Did {S O : Type 0} (bits_of : S → ℕ → Option Bits) (origin_of : S → O) (old new : SessionState S)
    : Type 0 where
  pub cmd : GraphCmd
  pub outcome : Result Reply CmdFault
  pub result : Result Reply SessionFault
  pub ledger : Option ℕ
  pub sound : IsSound old.collector (bits_of old.sweeper)
  pub by : CommandDone bits_of origin_of (counted_in old.collector ledger) old.sweeper cmd outcome new.collector
      new.sweeper
  pub is : outcome_of result ≡ Some outcome
  pub report : new.report ≡ old.report

module _ {S O : Type 0} (bits_of : S → ℕ → Option Bits) (origin_of : S → O) (old new : SessionState S)
    (did : Did bits_of origin_of old new) where
  in_worlds : DoesCommand old.collector (bits_of old.sweeper) did.cmd did.outcome new.collector (bits_of new.sweeper)
  in_worlds = does_counted old.collector did.ledger (bits_of old.sweeper) did.cmd did.outcome new.collector
      (bits_of new.sweeper) did.by.done

  of_outcome : (P : Result Reply CmdFault → Type 0) → P did.outcome → IfSome (outcome_of did.result) P
  of_outcome P p = subst (λ (x : Option (Result Reply CmdFault)). IfSome x P) (sym did.is) p

  as_outcome : (r : Result Reply SessionFault) (o : Result Reply CmdFault) → did.result ≡ r → outcome_of r ≡ Some o
      → did.outcome ≡ o
  as_outcome r o same other = some_one _ _ (sym did.is ∙ (ap outcome_of same ∙ other))

  says_in : (r : Result Reply SessionFault) → did.result ≡ r → IfOk r (IsReplyTo did.cmd)
  says_in (Ok reply) same = subst (λ (x : Result Reply CmdFault). IfOk x (IsReplyTo did.cmd))
      (as_outcome (Ok reply) (Ok reply) same refl)
      (says_reply old.collector (bits_of old.sweeper) did.cmd did.outcome new.collector (bits_of new.sweeper) did.sound
      in_worlds did.by.answered)
  says_in (Err why) same = tt

  counted : (P : CollectorState → Type 0) → P (counted_in old.collector did.ledger)
      → P (counted_in old.collector new.collector.heap.ledger)
  counted P p = in_ledger P old.collector did.ledger new.collector.heap.ledger did.by.ledger p

  pub session_does : SessionDoes bits_of did.cmd did.result old new
  session_does = record {
    done = of_outcome
        (λ x. DoesCommand old.collector (bits_of old.sweeper) did.cmd x new.collector (bits_of new.sweeper)) in_worlds;
    to_come = of_outcome
        (λ x. RaisesWithin (counted_in old.collector new.collector.heap.ledger) (bits_of old.sweeper) did.cmd x
        new.collector (bits_of new.sweeper))
        (counted (λ z. RaisesWithin z (bits_of old.sweeper) did.cmd did.outcome new.collector (bits_of new.sweeper))
        did.by.to_come);
    says = says_in did.result refl;
    accounts = gives_on old.collector (bits_of old.sweeper) new.collector (bits_of new.sweeper) did.cmd did.result
        did.outcome did.is in_worlds;
    refused = λ why same. counted (λ z. (new.collector ≡ z) × (bits_of new.sweeper ≡ bits_of old.sweeper))
        (did.by.refused why (as_outcome (Err (session.Refused why)) (Err (fault.Refused why)) same refl));
    wanted = λ same.
        counted (λ z. WantsMemory z (bits_of old.sweeper) did.cmd new.collector (bits_of new.sweeper))
        (did.by.wanted (as_outcome (Err session.NoMemory) (Err fault.NoMemory) same refl));
    sure = λ none same. did.by.sure none (as_outcome (Err session.NoMemory) (Err fault.NoMemory) same refl);
    full = λ same. absurd (cc (sym did.is ∙ ap outcome_of same));
    run = did.by.run;
    report = did.report;
  }
