use Rattle.judge.specs.Stages.{shown}
use Rattle.judge.proofs.Reports.{last_looks, looks_last}
use Rattle.judge.proofs.Results.{none_is, some_is}
use Rattle.judge.proofs.answers.units_line.Goals as goal

pub returns-in-Some : goal.returns-in-Some
returns-in-Some c = (
  some_is c.in_ok-last_line.field-0 c.in-Some.kind c.in-Some.is c.in_ok-last_line.ensures.wrong,
  λ more counts fits. looks_last c.args.running.collects c.args.graph.now (shown c.args.world.now) c.args.text.now
      (c.is_last.ensures.0 c.if-is_last.true),
)

pub returns-in_default : goal.returns-in_default
returns-in_default c = (
  λ new last. (
      let looks = last_looks c.args.running.most c.args.running.collects c.args.running.reports
      (shown c.args.world.now) c.args.text.now new last in
      let is = c.is_last.ensures.1 looks in cc (is, c.if-is_last.false)),
  λ more counts fits. absurd (none_is c.in_ok-more.field-0 c.in_default.is c.in_ok-more.ensures.none more counts fits),
)
