use Rattle.std.proofs.Common.{ℕ, List, IfOk, subst, sym}
use Rattle.judge.specs.Stages.{shown}
use Rattle.judge.specs.Replies.{Steps, due_as}
use Rattle.judge.specs.Verdicts.{IsSaid}
use Rattle.judge.proofs.judging.Known.next.Goals as goal

pub returns-in-Some-clause-said : goal.returns-in-Some-clause-said
returns-in-Some-clause-said c =
    let before = c.args.self.now in
    subst
    (λ (l : List ℕ). IfOk c.trace_line.result (IsSaid before.graph (shown before.world) (due_as before.awaited) l))
    (sym c.in-Some.ensures.some) c.trace_line.ensures.said

pub returns-in-Some-clause-fine : goal.returns-in-Some-clause-fine
returns-in-Some-clause-fine c = λ e.
    let before = c.args.self.now in
    let after = c.trace_line.new.self in
    subst (λ (l : List ℕ). Steps before.graph (shown before.world) (due_as before.awaited) l after.graph
    (shown after.world) (due_as after.awaited)) (sym c.in-Some.ensures.some) (c.trace_line.ensures.fine e)
