use Rattle.std.proofs.Common.{◌<◌, arith, subst, sym, ℕ, List, Option}
use Rattle.cell_bits.specs.declared.bits.Bits.{Bits}
use Rattle.slice_driver.specs.Advances.{AreOut}
use Rattle.slice_driver.specs.Left.{units_left}
use Rattle.slice_driver.specs.Units.{IsSound}
use Rattle.trace_cli.proofs.Units.{goes_as, makes_same, step_fronts, step_goes}
use Rattle.trace_cli.proofs.turns.answer_step.Goals as goal

pub count-requires-clause-small : goal.count-requires-clause-small
count-requires-clause-small g c = omega (arith, c.requires.few, c.in-Ok.ensures.done.less)

pub returns-in-Ok-write_step-clause-ok : goal.returns-in-Ok-write_step-clause-ok
returns-in-Ok-write_step-clause-ok g c =
    let goes = step_goes c.limit.result c.args.pending.now c.args.collector.now c.advance.new.self
    (g.F.Flight.bits c.args.flight.now) _ _ c.args.report.now c.advance.new.report c.in-Ok.step
    (g.K.Sink.written c.args.sink.now) (g.K.Sink.written c.write_step.new.sink) c.limit.ensures c.in-Ok.ensures.done
    c.in-Ok-write_step.ensures.ok in
    goes_as c.args.pending.now _ c.count.new.self c.args.collector.now c.advance.new.self
    (g.F.Flight.bits c.args.flight.now) _ _ (g.K.Sink.written c.args.sink.now)
    (g.K.Sink.written c.write_step.new.sink) c.pause_after.ensures.bits c.count.ensures goes

pub returns-in-Ok-write_step-clause-some : goal.returns-in-Ok-write_step-clause-some
returns-in-Ok-write_step-clause-some g c =
    subst (λ (h : ℕ → Option Bits). units_left c.advance.new.self h
    < units_left c.args.collector.now (g.F.Flight.bits c.args.flight.now)) (sym c.pause_after.ensures.bits)
    (omega (arith, c.in-Ok.ensures.done.less, c.in-Ok.ensures.done.some))

pub returns-in-Ok-write_step-clause-flight : goal.returns-in-Ok-write_step-clause-flight
returns-in-Ok-write_step-clause-flight g c = record {
  sound = subst (λ (h : ℕ → Option Bits). IsSound c.advance.new.self h) (sym c.pause_after.ensures.bits)
      c.in-Ok.ensures.done.sound;
  out = subst (λ (o : List (ℕ × ℕ)). AreOut c.advance.new.self.heap.shape o) (sym c.pause_after.ensures.out)
      c.in-Ok.ensures.done.out;
}

pub returns-in-Ok-write_step-clause-by : goal.returns-in-Ok-write_step-clause-by
returns-in-Ok-write_step-clause-by g c = c.pause_after.ensures.by c.in-Ok.ensures.done.ascending

pub returns-in-Ok-write_step-clause-size : goal.returns-in-Ok-write_step-clause-size
returns-in-Ok-write_step-clause-size g c =
    let did = c.in-Ok.ensures.done in record { made = did.made; entries = did.entries; ledger = did.ledger }

pub returns-in_default-clause-size : goal.returns-in_default-clause-size
returns-in_default-clause-size g c =
    makes_same c.args.collector.now c.advance.new.self c.in_default.ensures.still.err.same

pub returns-in-Err-clause-size : goal.returns-in-Err-clause-size
returns-in-Err-clause-size g c =
    let did = c.in-Ok.ensures.done in record { made = did.made; entries = did.entries; ledger = did.ledger }

pub returns-in-Err-clause-write : goal.returns-in-Err-clause-write
returns-in-Err-clause-write g c = λ e. step_fronts c.limit.result c.args.pending.now c.args.collector.now
    c.advance.new.self
    (g.F.Flight.bits c.args.flight.now) _ _ c.args.report.now c.advance.new.report c.in-Ok.step
    (g.K.Sink.written c.args.sink.now) (g.K.Sink.written c.write_step.new.sink) c.limit.ensures c.in-Ok.ensures.done
    c.in-Err.ensures.err
