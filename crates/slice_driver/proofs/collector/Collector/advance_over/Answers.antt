use Rattle.std.proofs.Common.{ℕ, List, None, Option, subst, sym}
use Rattle.cell_bits.specs.declared.bits.Bits.{Bits}
use Rattle.sweeping.specs.ArenasOut.{flying_after, outs_after}
use Rattle.slice_driver.specs.Advances.{Advances}
use Rattle.slice_driver.specs.declared.advance.Step.{Step}
use Rattle.slice_driver.proofs.marking.UnitSteps.{taken_over}
use Rattle.slice_driver.proofs.collector.Collector.advance_over.Goals as goal

pub returns-clause-done : goal.returns-clause-done
returns-clause-done g c =
    let now = c.args.self.now in
    let flown = g.F.Flight.bits c.args.sweeper.now in
    let step : Step = c.in_ok-units.field-0 in
    let after = c.advance.new.self in
    let bits = flying_after step.handed (g.F.Flight.bits c.advance.new.flight) in
    let left = outs_after step.handed (g.F.Sweeping.left (g.F.Flight.origin c.advance.new.flight)) in
    subst (λ (b : ℕ → Option Bits). Advances c.args.limit now flown c.args.report.now (record step { handed = None })
    after b (g.F.Sweeping.left (g.F.Flight.origin c.take_over.new.self)) c.advance.new.report)
    (sym c.take_over.ensures.bits)
    (subst (λ (outs : List (ℕ × ℕ)). Advances c.args.limit now flown c.args.report.now
    (record step { handed = None }) after bits outs c.advance.new.report) (sym c.take_over.ensures.left)
    (taken_over c.args.limit now flown c.args.report.now step after bits left c.advance.new.report
    c.in_ok-units.ensures.done))
