use Rattle.std.proofs.Common.{IsSome, ap, sym, subst}
use Rattle.slice_driver.specs.Accounts.{FreesOn, freed_by_report}
use Rattle.slice_driver.specs.Sessions.{SessionResets, SessionState, counted_in, session_step}
use Rattle.slice_driver.specs.declared.session.told.SessionStep.{SessionStep}
use Rattle.slice_driver.proofs.marking.Accounts.{frees_counted, idle_resets, resets_on}
use Rattle.slice_driver.proofs.marking.Sessions.{no_step_reset, resets_told}
use Rattle.slice_driver.proofs.session.Session.reset.Goals as goal

pub returns-then-not-running-clause-done : goal.returns-then-not-running-clause-done
returns-then-not-running-clause-done g c = no_step_reset c.none.result c.args.self.now.collector
    (g.S.Flight.bits c.args.self.now.sweeper) _ c.args.self.now.report c.none.ensures
    (λ running. absurd
    (let t = c.running.ensures.run.1
    (subst (λ (x : SessionState _). IsSome x.collector.run) (sym c.self.view_is) running) in
    cc (t, c.if-not-running.true)))

pub returns-then-not-running-clause-accounts : goal.returns-then-not-running-clause-accounts
returns-then-not-running-clause-accounts g c = idle_resets c.args.self.now.collector
    (g.S.Flight.bits c.args.self.now.sweeper) c.none.result c.args.self.now.report c.none.ensures

pub returns-clause-done : goal.returns-clause-done
returns-clause-done g c =
    let running = c.running.ensures.run.0 c.if-not-running.false in
    let after = c.reset-step.new in
    subst (λ (step : SessionStep). SessionResets c.args.self.now.collector (g.S.Flight.bits c.args.self.now.sweeper)
    c.args.self.now.report step after.collector (g.S.Flight.bits after.sweeper)
    (g.S.Sweeping.left (g.S.Flight.origin after.sweeper)) after.report) (sym c.step_of.ensures)
    (subst (λ (x : SessionState _). SessionResets x.collector (g.S.Flight.bits x.sweeper) x.report
    (session_step c.reset-step.result after.report) after.collector (g.S.Flight.bits after.sweeper)
    (g.S.Sweeping.left (g.S.Flight.origin after.sweeper)) after.report) c.self.view_is
    (resets_told _ _ _ _ _ c.self.inside.collector c.self.inside.report c.reset-step.result _ running
    (ap (counted_in c.self.inside.collector) (sym c.reset-step.ensures.done.ledger)) c.reset-step.ensures.done))

pub returns-clause-accounts : goal.returns-clause-accounts
returns-clause-accounts g c =
    let after = c.reset-step.new in
    subst (λ (step : SessionStep). FreesOn c.args.self.now.collector (g.S.Flight.bits c.args.self.now.sweeper)
    (freed_by_report step.report after.report) after.collector (g.S.Flight.bits after.sweeper)) (sym c.step_of.ensures)
    (subst (λ (x : SessionState _). FreesOn x.collector (g.S.Flight.bits x.sweeper)
    (freed_by_report (session_step c.reset-step.result after.report).report after.report) after.collector
    (g.S.Flight.bits after.sweeper)) c.self.view_is
    (frees_counted _ _ _ _ _ _ (resets_on _ _ _ _ _ _ _ c.reset-step.ensures.done)))
