use Rattle.std.proofs.Common.{◌<◌, refl, arith, subst, ◌∙◌, ℕ, List, Option}
use Rattle.slice_driver.specs.Collector.{CollectorState}
use Rattle.slice_driver.specs.Left.{units_left}
use Rattle.cell_bits.specs.declared.bits.Bits.{Bits}
use Rattle.trace_cli.specs.Standing.{StandsWith}
use Rattle.trace_cli.specs.Pauses.{bits_in, outs_in}
use Rattle.trace_cli.specs.Writing.{Goes}
use Rattle.trace_cli.specs.declared.pending.Pending.{Pending}
use Rattle.trace_cli.specs.declared.machine.Pause.{Pause}
use Rattle.trace_cli.proofs.Units.{goes_breaks, goes_few, goes_on, goes_stops, makes_none, none_gone}
use Rattle.trace_cli.proofs.turns.answer_units.Goals as goal

-- what a step left, by what it asks of the loop
abbrev Left : CollectorState → (ℕ → Option Bits) → Pending → CollectorState → (ℕ → Option Bits) → Pending
    → Option (List ℕ) → Option (List ℕ) → Pause → Type 0
Left c f left d g now p q t = Goes c f left d (bits_in t g) now p q

pub loop-collector-init : goal.loop-collector-init
loop-collector-init g c = (
  c.requires.flight,
  c.requires.few,
  none_gone c.args.pending.now c.args.collector.now (g.F.Flight.bits c.args.flight.now)
      (g.K.Sink.written c.args.sink.now),
  record { made = refl; entries = omega arith; ledger = refl },
  refl,
  refl,
)

pub answer_step-requires-clause-counted : goal.answer_step-requires-clause-counted
answer_step-requires-clause-counted g c = c.loop-collector.invariant.3.ledger ∙ c.requires.counted

pub loop-collector-preserved : goal.loop-collector-preserved
loop-collector-preserved g c =
    let so = c.loop-collector.invariant in
    let did = c.in-Ok-None.ensures in
    let goes = subst (Left c.loop-collector.collector (g.F.Flight.bits c.loop-collector.flight) c.loop-collector.pending
    c.answer_step.new.collector (g.F.Flight.bits c.answer_step.new.flight) c.answer_step.new.pending
    (g.K.Sink.written c.loop-collector.sink) (g.K.Sink.written c.answer_step.new.sink)) c.in-Ok-None.field-0-is did.ok
    in (
      subst (λ (t : Pause). StandsWith c.answer_step.new.collector
          (outs_in t (g.F.Sweeping.left (g.F.Flight.origin c.answer_step.new.flight)))
          (bits_in t (g.F.Flight.bits c.answer_step.new.flight))) c.in-Ok-None.field-0-is did.flight,
      goes_few _ _ _ _ _ _ _ _ goes so.1,
      goes_on _ _ _ _ _ _ _ _ _ _ _ _ so.2 goes,
      makes_none _ _ _ so.3 did.size,
      did.faults.same ∙ so.4,
      did.home ∙ so.5,
    )

pub loop-collector-smaller : goal.loop-collector-smaller
loop-collector-smaller g c = subst (λ (t : Pause). units_left c.answer_step.new.collector
    (bits_in t (g.F.Flight.bits c.answer_step.new.flight))
    < units_left c.loop-collector.collector (g.F.Flight.bits c.loop-collector.flight)) c.in-Ok-None.field-0-is
    c.in-Ok-None.ensures.some

pub returns-in-Ok-clause-ok : goal.returns-in-Ok-clause-ok
returns-in-Ok-clause-ok g c =
    goes_on _ _ _ _ _ _ _ _ _ _ _ _ c.loop-collector.invariant.2 c.in-Ok.ensures.ok

pub returns-in-Ok-clause-size : goal.returns-in-Ok-clause-size
returns-in-Ok-clause-size g c = makes_none _ _ _ c.loop-collector.invariant.3 c.in-Ok.ensures.size

pub returns-in-Err-clause-size : goal.returns-in-Err-clause-size
returns-in-Err-clause-size g c = makes_none _ _ _ c.loop-collector.invariant.3 c.in-Err.ensures.size

pub returns-in-Err-clause-memory : goal.returns-in-Err-clause-memory
returns-in-Err-clause-memory g c = λ e. goes_stops _ _ _ _ _ _ _ _ _ c.loop-collector.invariant.2
    (c.in-Err.ensures.memory e)

pub returns-in-Err-clause-write : goal.returns-in-Err-clause-write
returns-in-Err-clause-write g c = λ e. goes_breaks _ _ _ _ _ _ _ _ _ c.loop-collector.invariant.2
    (c.in-Err.ensures.write e)
