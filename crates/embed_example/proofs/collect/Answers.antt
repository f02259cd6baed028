use Rattle.std.proofs.Common.{◌≡◌, ◌∙◌, Result, Ok, Err, IfOk, Some, arith, subst, sym}
use Rattle.std.specs.Result.{result_ok}
use Rattle.slice_driver.specs.Sessions.{SessionSteps}
use Rattle.slice_driver.proofs.marking.Sessions.{left_counted}
use Rattle.slice_driver.specs.declared.session.told.SessionStep.{SessionStep}
use Rattle.sweeping.specs.ArenasOut.{flown_by, outs_of}
use Rattle.embed_example.proofs.collect.Goals as goal

-- what is told of a step that was done
of_step : {E : Type 0} (P : SessionStep → Type 0) (result : Result SessionStep E) (step : SessionStep)
    → result_ok result ≡ Some step → IfOk result P → P step
of_step P (Ok x) step is p = subst P (cc is) p
of_step P (Err why) step is p = absurd (cc is)

pub loop-session-smaller : goal.loop-session-smaller
loop-session-smaller c =
    let old = c.loop-session.session in
    let new = c.advance.new.self in
    let did = of_step (λ step. SessionSteps 1000 old.collector (flown_by old.sweeper) old.report step new.collector
    (flown_by new.sweeper) (outs_of new.sweeper) new.report) c.advance.result c.in_ok-step.step
    (sym c.ok-in-loop-session.ensures.value ∙ c.in_ok-step.was) c.advance.ensures.done in
    let steps = did.steps (omega arith) (c.running.ensures.0 c.loop-session-test.true) in
    let same = left_counted old.collector new.collector.heap.ledger (flown_by old.sweeper) in
    omega (arith, same, steps.less, steps.some)
