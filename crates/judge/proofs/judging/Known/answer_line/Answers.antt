use Rattle.std.proofs.Common.{inr, refl, subst}
use Rattle.colour_defs.specs.Graph.{GraphState}
use Rattle.judge.specs.Stages.{Shown, shown}
use Rattle.judge.specs.Replies.{IsAnswered, IsJudgedLine, IsWrongAnswer, due_as}
use Rattle.judge.specs.declared.answers.Awaited.{Awaited}
use Rattle.judge.proofs.judging.Known.answer_line.Goals as goal

pub returns-in-Ok-clause-fine : goal.returns-in-Ok-clause-fine
returns-in-Ok-clause-fine c = λ e.
    let g : GraphState = c.args.self.now.graph in
    let due = due_as c.replace-awaited.result in
    let old : Shown = shown c.args.self.now.world in
    let new : Shown = shown c.judge_line.new.world in
    let judged = subst (λ r. IsJudgedLine g old due c.args.line.now new r) c.in-Ok.is c.in_ok-awaited.ensures in inr (
      c.requires.unmarked,
      refl,
      subst (λ (a : Awaited). IsAnswered g old (due_as a) c.args.line.now new (due_as c.in-Ok.awaited))
          c.replace-awaited.ensures.value judged,
    )

pub returns-in-Err-clause-said : goal.returns-in-Err-clause-said
returns-in-Err-clause-said c =
    let g : GraphState = c.args.self.now.graph in
    let due = due_as c.replace-awaited.result in
    let old : Shown = shown c.args.self.now.world in
    let new : Shown = shown c.judge_line.new.world in
    let judged = subst (λ r. IsJudgedLine g old due c.args.line.now new r) c.in-Err.is c.in_ok-awaited.ensures in inr (
      c.requires.unmarked,
      subst (λ (a : Awaited). IsWrongAnswer g old (due_as a) c.args.line.now) c.replace-awaited.ensures.value judged,
    )
