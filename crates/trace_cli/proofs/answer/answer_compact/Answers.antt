use Rattle.std.proofs.Common.{inr, refl, ap, subst, ◌∙◌, [], ◌∷◌, Err, Result}
use Rattle.compact.specs.declared.Compacted.{Compacted}
use Rattle.slice_driver.specs.Compacting.{CompactDone}
use Rattle.slice_driver.specs.declared.compacting.CompactFault.{CompactFault}
use Rattle.trace_cli.proofs.Answered.{refusal_breaks, refusal_writes}
use Rattle.trace_cli.proofs.ArenasOut.{out_kept, stands_as}
use Rattle.trace_cli.proofs.Compacted.{compact_breaks, compact_no_zone, compact_stops, compact_while_running}
use Rattle.trace_cli.proofs.Compacted.{compact_writes}
use Rattle.trace_cli.proofs.Replied.{replied, wanted}
use Rattle.std.proofs.KnownBytes.{Appends-nil}
use Rattle.trace_cli.proofs.answer.answer_compact.Goals as goal

pub compact-requires : goal.compact-requires
compact-requires g c = (g.F.Flight.bits c.args._flight.now, c.requires.sound)

pub returns-in-Ok-clause-answer : goal.returns-in-Ok-clause-answer
returns-in-Ok-clause-answer g c =
    let f = g.F.Flight.bits c.args._flight.now in
    replied c.write_last.result c.write_last.ensures.fault c.write_last.ensures.ok c.write_last.ensures.err
    (λ written. compact_writes c.args.collector.now c.args.zone c.in-Ok.done c.compact.new.self f c.in-Ok.ensures.done
    _ _ written)
    (λ written. compact_breaks c.args.collector.now c.args.zone c.in-Ok.done c.compact.new.self f c.in-Ok.ensures.done
    _ _ written)

pub returns-in-Ok-clause-flight : goal.returns-in-Ok-clause-flight
returns-in-Ok-clause-flight g c = record {
  sound = c.compact.ensures.sound (g.F.Flight.bits c.args._flight.now) c.requires.sound;
  out = out_kept c.args.collector.now.heap.shape c.compact.new.self.heap.shape _ _ c.compact.ensures.words refl
      c.requires.out;
}

pub returns-in-Err-Running-clause-answer : goal.returns-in-Err-Running-clause-answer
returns-in-Err-Running-clause-answer g c =
    let f = g.F.Flight.bits c.args._flight.now in
    let runs = c.in-Err-Running.ensures.running.0 (ap (λ (x : CompactFault). Err x) c.in-Err-Running.field-0-is) in
    let last = c.write_last-in-Err-Running.ensures in
    replied c.write_last-in-Err-Running.result last.fault last.ok last.err
    (λ written. refusal_writes c.args.collector.now c.compact.new.self f (c.args.zone ∷ []) _ _ _ _
    (λ w answer refuses. inr refuses)
    (λ w r. compact_while_running c.args.collector.now f w c.args.zone r runs) c.in-Err-Running.ensures.err written)
    (λ written. refusal_breaks c.args.collector.now f (c.args.zone ∷ []) _ _ _ _ (λ w answer refuses. inr refuses)
    (λ w r. compact_while_running c.args.collector.now f w c.args.zone r runs) written)

pub returns-in-Err-Running-clause-flight : goal.returns-in-Err-Running-clause-flight
returns-in-Err-Running-clause-flight g c = stands_as c.args.collector.now c.compact.new.self
    (g.F.Sweeping.left (g.F.Flight.origin c.args._flight.now)) (g.F.Flight.bits c.args._flight.now)
    c.in-Err-Running.ensures.err c.requires

pub returns-in-Err-NoZone-clause-answer : goal.returns-in-Err-NoZone-clause-answer
returns-in-Err-NoZone-clause-answer g c =
    let f = g.F.Flight.bits c.args._flight.now in
    let none = c.in-Err-NoZone.ensures.no_zone.0 (ap (λ (x : CompactFault). Err x) c.in-Err-NoZone.field-0-is) in
    let last = c.write_last-in-Err-NoZone.ensures in
    replied c.write_last-in-Err-NoZone.result last.fault last.ok last.err
    (λ written. refusal_writes c.args.collector.now c.compact.new.self f (c.args.zone ∷ []) _ _ _ _
    (λ w answer refuses. inr refuses)
    (λ w r. compact_no_zone c.args.collector.now f w c.args.zone r none) c.in-Err-NoZone.ensures.err written)
    (λ written. refusal_breaks c.args.collector.now f (c.args.zone ∷ []) _ _ _ _ (λ w answer refuses. inr refuses)
    (λ w r. compact_no_zone c.args.collector.now f w c.args.zone r none) written)

pub returns-in-Err-NoZone-clause-flight : goal.returns-in-Err-NoZone-clause-flight
returns-in-Err-NoZone-clause-flight g c = stands_as c.args.collector.now c.compact.new.self
    (g.F.Sweeping.left (g.F.Flight.origin c.args._flight.now)) (g.F.Flight.bits c.args._flight.now)
    c.in-Err-NoZone.ensures.err c.requires

pub returns-in-Err-NoMemory-clause-answer : goal.returns-in-Err-NoMemory-clause-answer
returns-in-Err-NoMemory-clause-answer g c =
    let same = c.in-Err-NoMemory.is ∙ ap (λ (x : CompactFault). Err x) c.in-Err-NoMemory.field-0-is in
    wanted (compact_stops c.args.collector.now (g.F.Flight.bits c.args._flight.now) c.args.zone c.compact.new.self _ _
    (subst (λ (r : Result Compacted CompactFault). CompactDone c.args.collector.now c.args.zone r c.compact.new.self)
    same c.compact.ensures) (Appends-nil _))

pub returns-in-Err-NoMemory-clause-flight : goal.returns-in-Err-NoMemory-clause-flight
returns-in-Err-NoMemory-clause-flight g c = stands_as c.args.collector.now c.compact.new.self
    (g.F.Sweeping.left (g.F.Flight.origin c.args._flight.now)) (g.F.Flight.bits c.args._flight.now)
    c.in-Err-NoMemory.ensures.err c.requires
