use Rattle.std.proofs.Common.{[], inl, inr, refl, subst, ◌≢◌}
use Rattle.gz_names.specs.declared.replies.Report.TheVariants as report
use Rattle.judge.specs.Stages.{IsDue, shown}
use Rattle.judge.specs.declared.world.DueReport.TheVariants as due
use Rattle.judge.proofs.Reports.{not_due, not_told}
use Rattle.judge.proofs.Results.{a_fault, fault_known, no_fault}
use Rattle.judge.proofs.checks.judge_report.Goals as goal

pub returns-then-not-has_told-clause-right : goal.returns-then-not-has_told-clause-right
returns-then-not-has_told-clause-right c = no_fault c.told.result (λ p. inr p) c.told.ensures.right

pub returns-then-not-has_told-clause-wrong : goal.returns-then-not-has_told-clause-wrong
returns-then-not-has_told-clause-wrong c =
    let some : c.args.world.now.told ≢ [] = λ e. let has = c.has_told.ensures.1 e in cc (has, c.if-not-has_told.true) in
    a_fault c.told.result (not_told c.args.graph.now (shown c.args.world.now) c.args.line.now some) c.told.ensures.wrong

pub returns-in-Idle-clause-right : goal.returns-in-Idle-clause-right
returns-in-Idle-clause-right c =
    let none = c.has_told.ensures.0 c.if-not-has_told.false in
    no_fault c.none_due.result (λ p. absurd p) c.none_due.ensures

pub returns-in-Idle-clause-wrong : goal.returns-in-Idle-clause-wrong
returns-in-Idle-clause-wrong c =
    let none = c.has_told.ensures.0 c.if-not-has_told.false in
    let at = subst (λ d. IsDue d (shown c.args.world.now)) c.in-Idle.is c.due_report.ensures in
    fault_known c.none_due.result
    (not_due due.Idle c.args.graph.now (shown c.args.world.now) c.args.line.now at none tt)

pub returns-in-Started-clause-right : goal.returns-in-Started-clause-right
returns-in-Started-clause-right c =
    let none = c.has_told.ensures.0 c.if-not-has_told.false in
    no_fault c.started.result (λ p. inl (report.Started, p.0, p.1, none)) c.started.ensures.right

pub returns-in-Started-clause-wrong : goal.returns-in-Started-clause-wrong
returns-in-Started-clause-wrong c =
    let none = c.has_told.ensures.0 c.if-not-has_told.false in
    let at = subst (λ d. IsDue d (shown c.args.world.now)) c.in-Started.is c.due_report.ensures in
    a_fault c.started.result (not_due due.Started c.args.graph.now (shown c.args.world.now) c.args.line.now at none)
    c.started.ensures.wrong

pub returns-in-Groups-clause-right : goal.returns-in-Groups-clause-right
returns-in-Groups-clause-right c =
    let none = c.has_told.ensures.0 c.if-not-has_told.false in
    no_fault c.formed.result (λ p. inl (report.Groups p.0, p.1, (p.2, p.3), none)) c.formed.ensures.right

pub returns-in-Groups-clause-wrong : goal.returns-in-Groups-clause-wrong
returns-in-Groups-clause-wrong c =
    let none = c.has_told.ensures.0 c.if-not-has_told.false in
    let at = subst (λ d. IsDue d (shown c.args.world.now)) c.in-Groups.is c.due_report.ensures in
    a_fault c.formed.result (not_due due.Groups c.args.graph.now (shown c.args.world.now) c.args.line.now at none)
    c.formed.ensures.wrong

pub returns-in-Ended-clause-right : goal.returns-in-Ended-clause-right
returns-in-Ended-clause-right c =
    let none = c.has_told.ensures.0 c.if-not-has_told.false in
    no_fault c.ended.result (λ p. inl (report.Ended p.0 p.1 [], p.2, (refl, p.3), none)) c.ended.ensures.right

pub returns-in-Ended-clause-wrong : goal.returns-in-Ended-clause-wrong
returns-in-Ended-clause-wrong c =
    let none = c.has_told.ensures.0 c.if-not-has_told.false in
    let at = subst (λ d. IsDue d (shown c.args.world.now)) c.in-Ended.is c.due_report.ensures in
    a_fault c.ended.result (not_due due.Ended c.args.graph.now (shown c.args.world.now) c.args.line.now at none)
    c.ended.ensures.wrong

pub returns-in-Swept-clause-right : goal.returns-in-Swept-clause-right
returns-in-Swept-clause-right c =
    let none = c.has_told.ensures.0 c.if-not-has_told.false in
    no_fault c.swept.result (λ p. inl (report.Swept c.in-Swept.arena p.0, p.1, p.2, none)) c.swept.ensures.right

pub returns-in-Swept-clause-wrong : goal.returns-in-Swept-clause-wrong
returns-in-Swept-clause-wrong c =
    let none = c.has_told.ensures.0 c.if-not-has_told.false in
    let at = subst (λ d. IsDue d (shown c.args.world.now)) c.in-Swept.is c.due_report.ensures in
    a_fault c.swept.result
    (not_due (due.Swept c.in-Swept.arena) c.args.graph.now (shown c.args.world.now) c.args.line.now at none)
    c.swept.ensures.wrong

pub returns-in-Done-clause-right : goal.returns-in-Done-clause-right
returns-in-Done-clause-right c =
    let none = c.has_told.ensures.0 c.if-not-has_told.false in
    no_fault c.done.result (λ p. inl (report.Done, p.0, p.1, none)) c.done.ensures.right

pub returns-in-Done-clause-wrong : goal.returns-in-Done-clause-wrong
returns-in-Done-clause-wrong c =
    let none = c.has_told.ensures.0 c.if-not-has_told.false in
    let at = subst (λ d. IsDue d (shown c.args.world.now)) c.in-Done.is c.due_report.ensures in
    a_fault c.done.result (not_due due.Done c.args.graph.now (shown c.args.world.now) c.args.line.now at none)
    c.done.ensures.wrong
