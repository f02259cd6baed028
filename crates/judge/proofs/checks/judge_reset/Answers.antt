use Rattle.std.proofs.Common.{subst}
use Rattle.gz_names.specs.declared.replies.Report.TheVariants as report
use Rattle.judge.specs.Stages.{IsDue, IsOver, shown}
use Rattle.judge.proofs.Reports.{not_done, not_swept}
use Rattle.judge.proofs.Results.{a_fault, no_fault}
use Rattle.judge.proofs.checks.judge_reset.Goals as goal

pub returns-in-Swept-clause-right : goal.returns-in-Swept-clause-right
returns-in-Swept-clause-right c =
    no_fault c.swept.result (λ p. (report.Swept c.in-Swept.arena p.0, p.1, p.2)) c.swept.ensures.right

pub returns-in-Done-clause-right : goal.returns-in-Done-clause-right
returns-in-Done-clause-right c = no_fault c.done.result (λ p. (report.Done, p.0, p.1)) c.done.ensures.right

pub returns-in_default-clause-right : goal.returns-in_default-clause-right
returns-in_default-clause-right c =
    no_fault c.stopped.result (λ p. (report.Stopped p.0, p.1, p.2)) c.stopped.ensures.right

pub returns-in-Swept-clause-wrong : goal.returns-in-Swept-clause-wrong
returns-in-Swept-clause-wrong c =
    let at = subst (λ d. IsDue d (shown c.args.world.now)) c.in-Swept.is c.due_report.ensures in
    a_fault c.swept.result (not_swept c.in-Swept.arena (shown c.args.world.now) c.args.line.now at)
    c.swept.ensures.wrong

pub returns-in-Done-clause-wrong : goal.returns-in-Done-clause-wrong
returns-in-Done-clause-wrong c =
    let (none, (zones, marking, ended)) =
    subst (λ d. IsDue d (shown c.args.world.now)) c.in-Done.is c.due_report.ensures in
    let over : IsOver (shown c.args.world.now) =
    record { zones = zones; marking = marking; ended = ended; none_out = none } in
    a_fault c.done.result (not_done (shown c.args.world.now) c.args.line.now over) c.done.ensures.wrong
