use denote.Param.Send.{sendable}
use Rattle.std.proofs.Common.{ap, refl, rules, subst, sym, ◌∙◌}
use Rattle.sweeping.specs.ArenasOut.{flown_by, outs_of}
use Rattle.trace_cli.specs.Pauses.{Sweeps}
use Rattle.trace_cli.proofs.Closing.{from_err, from_ok}
use Rattle.trace_cli.proofs.Handing.{none_at_first, pause_ends, pause_marks, pause_over, pause_sweeps, pausing}
use Rattle.trace_cli.proofs.Handing.{some_ends, some_marks, some_sweeps, unswept}
use Rattle.trace_cli.proofs.Sent.{replaying_send}
use Rattle.trace_cli.proofs.reading.run_on.Goals as goal

pub loop-init : goal.loop-init
loop-init g c = record {
  machine = refl;
  source = refl;
  sink = refl;
  steps = refl;
  pause = refl;
  ledger = refl;
  lender = refl;
  pauses = λ e s. none_at_first e _ _ _ _ _ _ c.requires.going s;
}

pub returns-in-Over-clause-ended : goal.returns-in-Over-clause-ended
returns-in-Over-clause-ended g c = λ e s. pause_over e _ _ _ _ _ c.loop.replaying.pause.now
    (c.loop.invariant.pauses e s) c.in-Over.exit (sym c.replace.ensures.value ∙ c.in-Over.is)

pub sweep_beside-requires-send-W : goal.sweep_beside-requires-send-W
sweep_beside-requires-send-W g c κs within = search (sendable, replaying_send)

pub sweep_beside-requires-clause-ascending : goal.sweep_beside-requires-clause-ascending
sweep_beside-requires-clause-ascending g c = λ κs within.
    (some_sweeps _ _ _ _ _ c.loop.replaying.pause.now
    (pausing _ _ _ _ _ _ _ _ _ _ c.loop.invariant.pauses c.requires.standing) c.in-Sweep.jobs
    (sym c.replace.ensures.value ∙ c.in-Sweep.is)).1

pub sweep_beside-requires-clause-ready : goal.sweep_beside-requires-clause-ready
sweep_beside-requires-clause-ready g c = λ κs within. (
  c.loop.invariant.ledger ∙ c.requires.counted,
  (some_sweeps _ _ _ _ _ c.loop.replaying.pause.now
      (pausing _ _ _ _ _ _ _ _ _ _ c.loop.invariant.pauses c.requires.standing) c.in-Sweep.jobs
      (sym c.replace.ensures.value ∙ c.in-Sweep.is)).0,
)

pub returns-then-is_err-clause-ended : goal.returns-then-is_err-clause-ended
returns-then-is_err-clause-ended g c = λ e s.
    let sweeps = pause_sweeps e _ _ _ _ _ c.loop.replaying.pause.now (c.loop.invariant.pauses e s) c.in-Sweep.jobs
    (sym c.replace.ensures.value ∙ c.in-Sweep.is) in
    let kept = from_err c.sweep_beside.result (sym c.is_err.ensures.value ∙ c.if-is_err.true)
    c.sweep_beside.ensures.kept in
    unswept e _ _ _ _ _ _ _ _ _ _ (subst (λ r. Sweeps e r.machine.now (g.S.CommandSource.input r.source.now)
    (g.K.Sink.written r.sink.now) (g.K.Sink.faults r.sink.now) (outs_of c.in-Sweep.jobs)
    (flown_by c.in-Sweep.jobs)) (sym kept) sweeps) c.end_so.ensures.kept c.end_so.ensures.cause

pub loop-preserved : goal.loop-preserved
loop-preserved g c =
    let so = c.loop.invariant in
    let ran = from_ok c.sweep_beside.result (sym c.is_err.ensures.value ∙ c.if-is_err.false)
    c.sweep_beside.ensures.ran in record {
      machine = ran.0 ∙ so.machine;
      source = ran.1 ∙ so.source;
      sink = ran.2 ∙ so.sink;
      steps = ran.3 ∙ so.steps;
      pause = ran.4 ∙ so.pause;
      ledger = ran.5 ∙ so.ledger;
      lender = ran.6 ∙ so.lender;
      pauses = λ e s. ran.7 e (pause_sweeps e _ _ _ _ _ c.loop.replaying.pause.now (so.pauses e s) c.in-Sweep.jobs
          (sym c.replace.ensures.value ∙ c.in-Sweep.is)).stands;
    }

pub run-requires : goal.run-requires
run-requires g c = (
  c.loop.invariant.ledger ∙ c.requires.counted,
  some_ends _ _ _ _ _ c.loop.replaying.pause.now
      (pausing _ _ _ _ _ _ _ _ _ _ c.loop.invariant.pauses c.requires.standing) c.new.result c.replace.result
      c.replace.ensures.value c.in-None-replace.is c.new.ensures,
)

pub loop-preserved-in-None-replace : goal.loop-preserved-in-None-replace
loop-preserved-in-None-replace g c =
    let so = c.loop.invariant in
    let ran = c.run.ensures.ran in record {
      machine = ran.0 ∙ so.machine;
      source = ran.1 ∙ so.source;
      sink = ran.2 ∙ so.sink;
      steps = ran.3 ∙ so.steps;
      pause = ran.4 ∙ so.pause;
      ledger = ran.5 ∙ so.ledger;
      lender = ran.6 ∙ so.lender;
      pauses = λ e s. ran.7 e (pause_ends e _ _ _ _ _ c.loop.replaying.pause.now (so.pauses e s) c.new.result
          c.replace.result c.replace.ensures.value c.in-None-replace.is c.new.ensures);
    }

pub mark_by-requires-clause-standing : goal.mark_by-requires-clause-standing
mark_by-requires-clause-standing g c = some_marks _ _ _ _ _ c.loop.replaying.pause.now
    (pausing _ _ _ _ _ _ _ _ _ _ c.loop.invariant.pauses c.requires.standing)
    (sym c.replace.ensures.value ∙ c.in-MarkingBegan.is)

pub loop-preserved-then-resources : goal.loop-preserved-then-resources
loop-preserved-then-resources g c =
    let so = c.loop.invariant in
    let marked = c.mark_by.ensures in record {
      machine = marked.machine ∙ so.machine;
      source = ap (λ z. z.source.ghost_name) marked.rest ∙ so.source;
      sink = ap (λ z. z.sink.ghost_name) marked.rest ∙ so.sink;
      steps = marked.steps ∙ so.steps;
      pause = search rules;
      ledger = marked.ledger ∙ so.ledger;
      lender = ap (λ z. g.S.CommandSource.lender z.source.now) marked.rest ∙ so.lender;
      pauses = λ e s. none_at_first e _ _ _ _ _ _ (ap (λ z. z.pause.now) marked.rest ∙ c.replace.ensures.after)
          (marked.stands e (pause_marks e _ _ _ _ _ c.loop.replaying.pause.now (so.pauses e s)
          (sym c.replace.ensures.value ∙ c.in-MarkingBegan.is)));
    }

pub loop-preserved-else-resources : goal.loop-preserved-else-resources
loop-preserved-else-resources g c =
    let so = c.loop.invariant in record {
      machine = so.machine;
      source = so.source;
      sink = so.sink;
      steps = so.steps;
      pause = so.pause;
      ledger = so.ledger;
      lender = so.lender;
      pauses = λ e s. none_at_first e _ _ _ _ _ _ c.replace.ensures.after
          (pause_marks e _ _ _ _ _ c.loop.replaying.pause.now (so.pauses e s)
          (sym c.replace.ensures.value ∙ c.in-MarkingBegan.is));
    }
