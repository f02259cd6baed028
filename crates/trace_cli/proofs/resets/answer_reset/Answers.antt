use Rattle.std.proofs.Common.{refl, ap, sym, ◌∙◌}
use Rattle.trace_cli.proofs.Closing.{from_err, from_ok}
use Rattle.trace_cli.proofs.Resetting.{breaks_on, none_reset, resets_on}
use Rattle.trace_cli.proofs.Units.{makes_none, makes_same}
use Rattle.trace_cli.proofs.resets.answer_reset.Goals as goal

pub loop-arena-init : goal.loop-arena-init
loop-arena-init g c = record {
  stands = c.requires.flight;
  goes = none_reset c.args.collector.now (g.F.Flight.bits c.args.flight.now) (g.K.Sink.written c.args.sink.now);
  size = makes_same c.args.collector.now c.args.collector.now refl;
  faults = refl;
  home = refl;
}

pub loop-arena-preserved : goal.loop-arena-preserved
loop-arena-preserved g c =
    let so = c.loop-arena.invariant in
    let did = c.take_in.ensures in
    let is = sym c.is_err.ensures.value ∙ c.if-is_err.false in record {
      stands = did.flight;
      goes = resets_on _ _ _ _ _ _ _ _ _ so.goes (from_ok c.take_in.result is did.ok);
      size = makes_none _ _ _ so.size did.size;
      faults = from_ok c.take_in.result is did.faults.same ∙ so.faults;
      home = did.home ∙ so.home;
    }

pub returns-then-is_err-clause-size : goal.returns-then-is_err-clause-size
returns-then-is_err-clause-size g c = makes_none _ _ _ c.loop-arena.invariant.size c.take_in.ensures.size

pub returns-then-is_err-clause-write : goal.returns-then-is_err-clause-write
returns-then-is_err-clause-write g c = λ e. breaks_on _ _ _ _ _ _ _ c.loop-arena.invariant.goes
    (from_err c.take_in.result (sym c.is_err.ensures.value ∙ c.if-is_err.true) c.take_in.ensures.write)

pub returns-then-is_empty-clause-ok : goal.returns-then-is_empty-clause-ok
returns-then-is_empty-clause-ok g c = resets_on _ _ _ _ _ _ _ _ _ c.loop-arena.invariant.goes
    (from_ok c.take_in.result (sym c.is_err.ensures.value ∙ c.if-is_err.false) c.take_in.ensures.ok)

pub returns-then-is_empty-clause-by : goal.returns-then-is_empty-clause-by
returns-then-is_empty-clause-by g c =
    (c.is_empty.ensures.none_left.0 c.if-is_empty.true, c.is_empty.ensures.none_held c.if-is_empty.true)

pub returns-then-is_empty-clause-size : goal.returns-then-is_empty-clause-size
returns-then-is_empty-clause-size g c = makes_none _ _ _ c.loop-arena.invariant.size c.take_in.ensures.size

pub stop-requires-clause-counted : goal.stop-requires-clause-counted
stop-requires-clause-counted g c = c.loop-arena.invariant.size.ledger ∙ c.requires.counted

pub returns-in-Ok-clause-ok : goal.returns-in-Ok-clause-ok
returns-in-Ok-clause-ok g c = resets_on _ _ _ _ _ _ _ _ _ c.loop-arena.invariant.goes c.in-Ok.ensures.ok

pub returns-in-Ok-clause-home : goal.returns-in-Ok-clause-home
returns-in-Ok-clause-home g c = ap g.F.Sweeping.home c.stop.ensures.origin ∙ c.loop-arena.invariant.home

pub returns-in-Ok-clause-size : goal.returns-in-Ok-clause-size
returns-in-Ok-clause-size g c = makes_none _ _ _ c.loop-arena.invariant.size c.stop.ensures.size

pub returns-clause-home : goal.returns-clause-home
returns-clause-home g c = ap g.F.Sweeping.home c.stop.ensures.origin ∙ c.loop-arena.invariant.home

pub returns-clause-size : goal.returns-clause-size
returns-clause-size g c = makes_none _ _ _ c.loop-arena.invariant.size c.stop.ensures.size

pub returns-clause-write : goal.returns-clause-write
returns-clause-write g c = λ e. breaks_on _ _ _ _ _ _ _ c.loop-arena.invariant.goes c.in-Err.ensures.write
