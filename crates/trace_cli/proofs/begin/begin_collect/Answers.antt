use Rattle.std.proofs.Common.{inr, refl, ap, Err}
use Rattle.gz_names.specs.Zones.{zones_in}
use Rattle.slice_driver.specs.declared.begin.BeginFault.{BeginFault}
use Rattle.trace_cli.proofs.Answered.{no_zone, one_runs, refusal_breaks, refusal_writes}
use Rattle.trace_cli.proofs.ArenasOut.{out_kept, stands_as}
use Rattle.trace_cli.proofs.Replied.{replied}
use Rattle.trace_cli.proofs.Started.{begun, collect_begins, started}
use Rattle.std.proofs.KnownBytes.{Appends-nil}
use Rattle.trace_cli.proofs.begin.begin_collect.Goals as goal

pub returns-in-Ok-clause-answer : goal.returns-in-Ok-clause-answer
returns-in-Ok-clause-answer g c = begun (collect_begins c.args.collector.now c.begin.new.self
    (g.F.Flight.bits c.args._flight.now) c.args.zones c.in-Ok.ensures.begun) (Appends-nil _)

pub returns-in-Ok-clause-flight : goal.returns-in-Ok-clause-flight
returns-in-Ok-clause-flight g c = record {
  sound = c.in-Ok.ensures.sound (g.F.Flight.bits c.args._flight.now) c.requires.flight.sound;
  out = out_kept c.args.collector.now.heap.shape c.begin.new.self.heap.shape _ _ c.in-Ok.ensures.words refl
      c.requires.flight.out;
}

pub returns-in-Err-Running-clause-answer : goal.returns-in-Err-Running-clause-answer
returns-in-Err-Running-clause-answer g c =
    let runs = c.in-Err-Running.ensures.running.0 (ap (λ (f : BeginFault). Err f) c.in-Err-Running.field-0-is) in
    let last = c.write_last.ensures in
    started c.write_last.result c.requires.none (replied c.write_last.result last.fault last.ok last.err
    (λ written. refusal_writes c.args.collector.now c.begin.new.self (g.F.Flight.bits c.args._flight.now)
    (zones_in c.args.zones) _
    _ _ _
    (λ w answer refuses. inr refuses)
    (λ w r. one_runs c.args.collector.now (g.F.Flight.bits c.args._flight.now) w c.args.zones r runs)
    c.in-Err-Running.ensures.refused written)
    (λ written. refusal_breaks c.args.collector.now (g.F.Flight.bits c.args._flight.now)
    (zones_in c.args.zones) _ _ _ _
    (λ w answer refuses. inr refuses)
    (λ w r. one_runs c.args.collector.now (g.F.Flight.bits c.args._flight.now) w c.args.zones r runs) written))

pub returns-in-Err-Running-clause-flight : goal.returns-in-Err-Running-clause-flight
returns-in-Err-Running-clause-flight g c = stands_as c.args.collector.now c.begin.new.self
    (g.F.Sweeping.left (g.F.Flight.origin c.args._flight.now)) (g.F.Flight.bits c.args._flight.now)
    c.in-Err-Running.ensures.refused c.requires.flight

pub returns-in-Err-NoZone-clause-answer : goal.returns-in-Err-NoZone-clause-answer
returns-in-Err-NoZone-clause-answer g c =
    let none = c.in-Err-NoZone.ensures.no_zone.0 (ap (λ (f : BeginFault). Err f) c.in-Err-NoZone.field-0-is) in
    let last = c.write_last-in-Err-NoZone.ensures in
    started c.write_last-in-Err-NoZone.result c.requires.none
    (replied c.write_last-in-Err-NoZone.result last.fault last.ok last.err
    (λ written. refusal_writes c.args.collector.now c.begin.new.self (g.F.Flight.bits c.args._flight.now)
    (zones_in c.args.zones) _
    _ _ _
    (λ w answer refuses. inr refuses)
    (λ w r. no_zone c.args.collector.now (g.F.Flight.bits c.args._flight.now) w c.args.zones
    r none.0 none.1) c.in-Err-NoZone.ensures.refused written)
    (λ written. refusal_breaks c.args.collector.now (g.F.Flight.bits c.args._flight.now)
    (zones_in c.args.zones) _ _ _ _
    (λ w answer refuses. inr refuses)
    (λ w r. no_zone c.args.collector.now (g.F.Flight.bits c.args._flight.now) w c.args.zones
    r none.0 none.1) written))

pub returns-in-Err-NoZone-clause-flight : goal.returns-in-Err-NoZone-clause-flight
returns-in-Err-NoZone-clause-flight g c = stands_as c.args.collector.now c.begin.new.self
    (g.F.Sweeping.left (g.F.Flight.origin c.args._flight.now)) (g.F.Flight.bits c.args._flight.now)
    c.in-Err-NoZone.ensures.refused c.requires.flight
