use Rattle.std.proofs.Common.{◌<◌, IfOk, IsSome, OnErr, Result, ap, arith, sym, subst}
use Rattle.std.specs.declared.alloc.AllocError.{AllocError}
use Rattle.slice_driver.specs.Accounts.{FreesOn, freed_by}
use Rattle.slice_driver.specs.Sessions.{SessionState, SessionSteps, counted_in, session_result}
use Rattle.slice_driver.specs.Working.{IsStill, MayWantMemory}
use Rattle.slice_driver.specs.declared.session.told.SessionStep.{SessionStep}
use Rattle.slice_driver.proofs.marking.Accounts.{frees_counted, frees_on, idle_on}
use Rattle.slice_driver.proofs.marking.Sessions.{in_ledger, no_step_done, ok_steps, sound_counted, told_err}
use Rattle.slice_driver.proofs.session.Session.advance.Goals as goal

pub returns-then-limit-eq0-clause-done : goal.returns-then-limit-eq0-clause-done
returns-then-limit-eq0-clause-done g c = no_step_done c.none.result c.args.limit c.args.self.now.collector
    (g.S.Flight.bits c.args.self.now.sweeper) _ c.args.self.now.report c.none.ensures
    (λ lt running. omega (arith, lt, c.if-limit-eq0.true))

pub returns-then-not-running-clause-done : goal.returns-then-not-running-clause-done
returns-then-not-running-clause-done g c = no_step_done c.none-then-not-running.result c.args.limit
    c.args.self.now.collector (g.S.Flight.bits c.args.self.now.sweeper) _ c.args.self.now.report
    c.none-then-not-running.ensures
    (λ lt running. absurd
    (let t = c.running.ensures.run.1
    (subst (λ (x : SessionState _). IsSome x.collector.run) (sym c.self.view_is) running) in
    cc (t, c.if-not-running.true)))

pub returns-then-limit-eq0-clause-accounts : goal.returns-then-limit-eq0-clause-accounts
returns-then-limit-eq0-clause-accounts g c = idle_on AllocError c.args.self.now.collector
    (g.S.Flight.bits c.args.self.now.sweeper) c.none.result c.args.self.now.report c.none.ensures

pub returns-then-not-running-clause-accounts : goal.returns-then-not-running-clause-accounts
returns-then-not-running-clause-accounts g c = idle_on AllocError c.args.self.now.collector
    (g.S.Flight.bits c.args.self.now.sweeper) c.none-then-not-running.result c.args.self.now.report
    c.none-then-not-running.ensures

pub returns-clause-done : goal.returns-clause-done
returns-clause-done g c =
    let some : 0 < c.args.limit = omega (arith, c.if-limit-eq0.false) in
    let running = c.running.ensures.run.0 c.if-not-running.false in
    let after = c.advance-done.new in
    subst
    (λ (r : Result SessionStep AllocError). IfOk r (λ (step : SessionStep). SessionSteps c.args.limit
    c.args.self.now.collector (g.S.Flight.bits c.args.self.now.sweeper) c.args.self.now.report step after.collector
    (g.S.Flight.bits after.sweeper) (g.S.Sweeping.left (g.S.Flight.origin after.sweeper)) after.report))
    (sym c.steps_of.ensures)
    (subst
    (λ (x : SessionState _). IfOk (session_result c.advance-done.result after.report) (λ (step : SessionStep).
    SessionSteps c.args.limit x.collector (g.S.Flight.bits x.sweeper) x.report step after.collector
    (g.S.Flight.bits after.sweeper) (g.S.Sweeping.left (g.S.Flight.origin after.sweeper)) after.report))
    c.self.view_is (ok_steps _ _ _ _ _ _ _ c.advance-done.result _ some running
    (sound_counted _ _ _ c.self.invariant.0) c.advance-done.ensures.handed c.advance-done.ensures.done
    c.self.inside.collector running
    (ap (counted_in c.self.inside.collector) (sym c.advance-done.ensures.ledger))))

pub returns-clause-accounts : goal.returns-clause-accounts
returns-clause-accounts g c =
    let after = c.advance-done.new in
    subst
    (λ (r : Result SessionStep AllocError). FreesOn c.args.self.now.collector
    (g.S.Flight.bits c.args.self.now.sweeper) (freed_by r after.report) after.collector
    (g.S.Flight.bits after.sweeper))
    (sym c.steps_of.ensures)
    (subst
    (λ (x : SessionState _). FreesOn x.collector (g.S.Flight.bits x.sweeper)
    (freed_by (session_result c.advance-done.result after.report) after.report) after.collector
    (g.S.Flight.bits after.sweeper))
    c.self.view_is (frees_counted _ _ _ _ _ _ (frees_on _ _ _ _ _ _ _ _ c.advance-done.result
    c.advance-done.ensures.done c.advance-done.ensures.err)))

pub returns-clause-err : goal.returns-clause-err
returns-clause-err g c =
    let after = c.advance-done.new in
    subst
    (λ (r : Result SessionStep AllocError). OnErr r (IsStill
    (counted_in c.args.self.now.collector after.collector.heap.ledger) (g.S.Flight.bits c.args.self.now.sweeper)
    after.collector (g.S.Flight.bits after.sweeper)))
    (sym c.steps_of.ensures)
    (told_err c.advance-done.result after.report _
    (subst
    (λ (x : SessionState _). OnErr c.advance-done.result (IsStill
    (counted_in x.collector after.collector.heap.ledger) (g.S.Flight.bits x.sweeper) after.collector
    (g.S.Flight.bits after.sweeper)))
    c.self.view_is
    (in_ledger (λ z. OnErr c.advance-done.result (IsStill z (g.S.Flight.bits c.self.inside.sweeper) after.collector
    (g.S.Flight.bits after.sweeper))) c.self.inside.collector _ _ c.advance-done.ensures.ledger
    c.advance-done.ensures.err)))

pub returns-clause-err_where : goal.returns-clause-err_where
returns-clause-err_where g c =
    let after = c.advance-done.new in
    subst
    (λ (r : Result SessionStep AllocError). OnErr r (MayWantMemory
    (counted_in c.args.self.now.collector after.collector.heap.ledger) (g.S.Flight.bits c.args.self.now.sweeper)))
    (sym c.steps_of.ensures)
    (told_err c.advance-done.result after.report _
    (subst
    (λ (x : SessionState _). OnErr c.advance-done.result (MayWantMemory
    (counted_in x.collector after.collector.heap.ledger) (g.S.Flight.bits x.sweeper)))
    c.self.view_is
    (in_ledger (λ z. OnErr c.advance-done.result (MayWantMemory z (g.S.Flight.bits c.self.inside.sweeper)))
    c.self.inside.collector _ _
    c.advance-done.ensures.ledger c.advance-done.ensures.err_where)))
