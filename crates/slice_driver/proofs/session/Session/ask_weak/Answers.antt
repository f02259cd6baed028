use Rattle.std.proofs.Common.{◌∙◌, Some, Result, Ok, Err, ap}
use Rattle.std.proofs.lemmas.Result.{err_from_is_err_and}
use Rattle.gz_names.specs.declared.replies.Reply.{Reply}
use Rattle.slice_driver.specs.Sessions.{as_reply, outcome_of, replied}
use Rattle.slice_driver.specs.declared.session.SessionFault.{SessionFault}
use Rattle.slice_driver.proofs.marking.WeakOutcomes.{replies_so}
use Rattle.slice_driver.proofs.session.Session.ask_weak.Goals as goal

pub of-requires : goal.of-requires
of-requires g c =
    let called = c.in_ok-reply.ensures in
    c.requires.says (as_reply c.in_ok-reply.reply)
    (replies_so c.args.cmd (as_reply c.in_ok-reply.reply) called.0 called.1 called.2.outcome_is)

pub returns : goal.returns
returns g c =
    let called = c.in_ok-reply.ensures in
    (called.0, ap (λ (answer : Reply). Some (Ok answer)) c.of.ensures ∙ called.1, called.2)

pub returns-in_err-reply : goal.returns-in_err-reply
returns-in_err-reply g c =
    let called = c.in_err-reply.ensures in
    let passed = err_from_is_err_and c.from_residual.result c.from_residual.ensures.1 in (
      called.0,
      ap (λ (r : Result g.row.T.Denot SessionFault). outcome_of (replied g.T.Answer.saying r)) passed.1
          ∙ (ap (λ (why : SessionFault). outcome_of (Err why)) passed.2 ∙ called.1),
      called.2,
    )
