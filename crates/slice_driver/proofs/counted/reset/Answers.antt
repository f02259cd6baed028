use Rattle.std.proofs.Common.{Some, subst, sym}
use Rattle.slice_driver.specs.Advances.{MayAdvance}
use Rattle.slice_driver.specs.Collector.{CollectorState}
use Rattle.slice_driver.specs.Resets.{ResetsOn}
use Rattle.slice_driver.proofs.marking.Sessions.{may_counted}
use Rattle.slice_driver.proofs.counted.reset.Goals as goal

pub reset_step-requires-clause-ready : goal.reset_step-requires-clause-ready
reset_step-requires-clause-ready g c =
    subst (λ (x : CollectorState). MayAdvance x (g.S.Flight.bits c.args.sweeper.now)
    (g.S.Sweeping.left (g.S.Flight.origin c.args.sweeper.now))) (sym c.count_edges-steps.ensures.ledger)
    (may_counted c.args.collector.now (Some g.L.Ledger.name) (g.S.Flight.bits c.args.sweeper.now) _ c.requires.ready)

pub returns : goal.returns
returns g c = record {
  done = subst (λ (x : CollectorState). ResetsOn x (g.S.Flight.bits c.args.sweeper.now) c.reset_step.result
      c.reset_step.new.self (g.S.Flight.bits c.reset_step.new.flight)
      (g.S.Sweeping.left (g.S.Flight.origin c.reset_step.new.flight)) c.reset_step.new.report)
      c.count_edges-steps.ensures.ledger c.reset_step.ensures.done;
}
