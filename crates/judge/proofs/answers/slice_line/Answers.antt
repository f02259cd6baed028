use Rattle.std.proofs.Common.{◌≡◌, ℕ, Option, arith, subst}
use Rattle.std.specs.Prelude.{IfSome}
use Rattle.gz_names.specs.declared.replies.Reply.TheVariants as answer
use Rattle.trace_lang.specs.Texts.{reply_text}
use Rattle.judge.specs.Stages.{shown}
use Rattle.judge.proofs.LastLines.{Names, over_bound, wrong_number}
use Rattle.judge.proofs.Results.{a_fault}
use Rattle.judge.proofs.answers.slice_line.Goals as goal

pub returns-in-Some-wrong_number-clause-wrong : goal.returns-in-Some-wrong_number-clause-wrong
returns-in-Some-wrong_number-clause-wrong c = λ new l.
    let line = c.args.text.now in
    let names : Names line c.in-Some.units = record {
      small = omega arith;
      line_is = subst (λ (o : Option ℕ). IfSome o (λ k. line ≡ reply_text (answer.Sliced k))) c.in-Some.is
          c.in_ok-units.ensures.some;
    } in
    wrong_number c.args.running.most c.args.running.reports c.in-Some.units (shown c.args.world.now) new line names
    c.in-Some-wrong_number.ensures.wrong l

pub returns-clause-wrong : goal.returns-clause-wrong
returns-clause-wrong c =
    let line = c.args.text.now in
    let names : Names line c.in-Some.units = record {
      small = omega arith;
      line_is = subst (λ (o : Option ℕ). IfSome o (λ k. line ≡ reply_text (answer.Sliced k))) c.in-Some.is
          c.in_ok-units.ensures.some;
    } in
    a_fault c.spend.result (λ over new l. over_bound c.args.running.most c.args.running.reports c.in-Some.units
    (shown c.args.world.now) new line names over l) c.spend.ensures.over
