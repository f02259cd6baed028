use Rattle.std.proofs.Common.{◌∙◌, IfOk, OnErr, Some, ap, subst, sym}
use Rattle.slice_driver.specs.Advances.{Advances, AreOut, MayAdvance}
use Rattle.slice_driver.specs.Collector.{CollectorState}
use Rattle.slice_driver.specs.Units.{IsSound}
use Rattle.slice_driver.specs.Working.{IsStill, MayWantMemory}
use Rattle.slice_driver.specs.declared.advance.Step.{Step}
use Rattle.slice_driver.proofs.marking.Sessions.{after_ledger, after_out, after_sound, may_counted, sound_counted}
use Rattle.slice_driver.proofs.counted.advance.Goals as goal

pub advance_over-requires-clause-ready : goal.advance_over-requires-clause-ready
advance_over-requires-clause-ready g c =
    subst (λ (x : CollectorState). MayAdvance x (g.S.Flight.bits c.args.sweeper.now)
    (g.S.Sweeping.left (g.S.Flight.origin c.args.sweeper.now))) (sym c.count_edges-steps.ensures.ledger)
    (may_counted c.args.collector.now (Some g.L.Ledger.name) (g.S.Flight.bits c.args.sweeper.now) _ c.requires.ready)

pub returns-clause-done : goal.returns-clause-done
returns-clause-done g c =
    subst (λ (x : CollectorState). IfOk c.advance_over.result (λ (step : Step). Advances c.args.limit x
    (g.S.Flight.bits c.args.sweeper.now) c.args.report.now step c.advance_over.new.self
    (g.S.Flight.bits c.advance_over.new.sweeper)
    (g.S.Sweeping.left (g.S.Flight.origin c.advance_over.new.sweeper)) c.advance_over.new.report))
    c.count_edges-steps.ensures.ledger c.advance_over.ensures.done

pub returns-clause-ledger : goal.returns-clause-ledger
returns-clause-ledger g c =
    after_ledger _ _ _ _ _ _ _ c.advance_over.result _ c.advance_over.ensures.done c.advance_over.ensures.err
    ∙ ap (λ (x : CollectorState). x.heap.ledger) c.count_edges-steps.ensures.ledger

pub returns-clause-err_where : goal.returns-clause-err_where
returns-clause-err_where g c =
    subst (λ (x : CollectorState). OnErr c.advance_over.result (MayWantMemory x (g.S.Flight.bits c.args.sweeper.now)))
    c.count_edges-steps.ensures.ledger c.advance_over.ensures.err_where

pub returns-clause-err : goal.returns-clause-err
returns-clause-err g c =
    subst (λ (x : CollectorState). OnErr c.advance_over.result (IsStill x (g.S.Flight.bits c.args.sweeper.now)
    c.advance_over.new.self (g.S.Flight.bits c.advance_over.new.sweeper))) c.count_edges-steps.ensures.ledger
    c.advance_over.ensures.err

pub returns-clause-sound : goal.returns-clause-sound
returns-clause-sound g c = after_sound _ _ _ _ _ _ _ c.advance_over.result _
    (subst (λ (x : CollectorState). IsSound x (g.S.Flight.bits c.args.sweeper.now))
    (sym c.count_edges-steps.ensures.ledger)
    (sound_counted c.args.collector.now (Some g.L.Ledger.name) (g.S.Flight.bits c.args.sweeper.now)
    c.requires.ready.sound)) c.advance_over.ensures.done c.advance_over.ensures.err

pub returns-clause-out : goal.returns-clause-out
returns-clause-out g c = after_out _ _ _ _ _ _ _ c.advance_over.result g.S.Sweeping.left _ _
    (subst (λ (x : CollectorState). AreOut x.heap.shape (g.S.Sweeping.left (g.S.Flight.origin c.args.sweeper.now)))
    (sym c.count_edges-steps.ensures.ledger) c.requires.ready.out) c.advance_over.ensures.done
    c.advance_over.ensures.err c.advance_over.ensures.err_out
