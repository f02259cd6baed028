use Rattle.std.proofs.Common.{ap, refl}
use Rattle.trace_cli.proofs.Answered.{Settled}
use Rattle.trace_cli.proofs.Dumped.{dump_break, dump_stop, dump_write, dumps_as, marking_break, marking_write}
use Rattle.trace_cli.proofs.ArenasOut.{out_kept, same_sound}
use Rattle.trace_cli.proofs.Replied.{replied, wanted}
use Rattle.std.proofs.KnownBytes.{Appends-nil}
use Rattle.trace_cli.proofs.dump.answer_dump.Goals as goal

pub returns-then-not-settled-clause-answer : goal.returns-then-not-settled-clause-answer
returns-then-not-settled-clause-answer g c =
    replied c.write_last.result c.write_last.ensures.fault c.write_last.ensures.ok c.write_last.ensures.err
    (λ written. marking_write c.args.collector.now (g.F.Flight.bits c.args.flight.now) _ _
    (λ w r s. cc ((c.if-not-settled.ensures.worlds (g.F.Flight.bits c.args.flight.now) w r).1 s)) written)
    (λ written. marking_break c.args.collector.now (g.F.Flight.bits c.args.flight.now) _ _
    (λ w r s. cc ((c.if-not-settled.ensures.worlds (g.F.Flight.bits c.args.flight.now) w r).1 s)) written)

pub returns-clause-answer : goal.returns-clause-answer
returns-clause-answer g c =
    let rests : Settled c.args.collector.now (g.F.Flight.bits c.args.flight.now) =
    λ w r. (c.if-not-settled.ensures.worlds (g.F.Flight.bits c.args.flight.now) w r).0 refl in
    let dumps = dumps_as c.args.collector.now (g.F.Flight.bits c.args.flight.now) c.in-Ok.lines.items c.from_vec.result
    c.from_vec.ensures c.in-Ok.ensures.lines in
    replied c.write_last-2.result c.write_last-2.ensures.fault c.write_last-2.ensures.ok c.write_last-2.ensures.err
    (λ written. dump_write c.args.collector.now (g.F.Flight.bits c.args.flight.now) (g.F.Flight.bits c.dump.new.flight)
    c.from_vec.result _ _
    rests dumps c.in-Ok.ensures.same c.in-Ok.ensures.heap written)
    (λ written. dump_break c.args.collector.now (g.F.Flight.bits c.args.flight.now) c.from_vec.result _ _ rests dumps
    written)

pub returns-clause-flight : goal.returns-clause-flight
returns-clause-flight g c = record {
  sound = same_sound c.args.collector.now c.args.collector.now (g.F.Flight.bits c.args.flight.now)
      (g.F.Flight.bits c.dump.new.flight)
      c.requires.flight.sound c.dump.ensures.same;
  out = out_kept c.args.collector.now.heap.shape c.args.collector.now.heap.shape _ _ (λ a freed is. is)
      (ap g.F.Sweeping.left c.dump.ensures.origin) c.requires.flight.out;
}

pub returns-in_default-clause-answer : goal.returns-in_default-clause-answer
returns-in_default-clause-answer g c = wanted (dump_stop c.args.collector.now (g.F.Flight.bits c.args.flight.now) _ _
    (λ w r. (c.if-not-settled.ensures.worlds (g.F.Flight.bits c.args.flight.now) w r).0 refl) (Appends-nil _))

pub returns-in_default-clause-flight : goal.returns-in_default-clause-flight
returns-in_default-clause-flight g c = record {
  sound = same_sound c.args.collector.now c.args.collector.now (g.F.Flight.bits c.args.flight.now)
      (g.F.Flight.bits c.dump.new.flight)
      c.requires.flight.sound c.dump.ensures.same;
  out = out_kept c.args.collector.now.heap.shape c.args.collector.now.heap.shape _ _ (λ a freed is. is)
      (ap g.F.Sweeping.left c.dump.ensures.origin) c.requires.flight.out;
}
