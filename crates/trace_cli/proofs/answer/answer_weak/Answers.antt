use Rattle.std.proofs.Common.{◌∙◌, ap, Err}
use Rattle.gz_names.specs.declared.replies.CmdFault.{CmdFault}
use Rattle.gz_names.specs.declared.replies.Reply.TheVariants as reply
use Rattle.trace_cli.proofs.ArenasOut.{out_kept}
use Rattle.trace_cli.proofs.Replied.{replied, wanted}
use Rattle.trace_cli.proofs.WeakAnswered.{wants_no_memory, weak_breaks, weak_ok, weak_refused}
use Rattle.trace_cli.proofs.WeakAnswered.{weak_stops, weak_writes}
use Rattle.std.proofs.KnownBytes.{Appends-nil}
use Rattle.trace_cli.proofs.answer.answer_weak.Goals as goal

pub returns-in-Ok-clause-answer : goal.returns-in-Ok-clause-answer
returns-in-Ok-clause-answer g c =
    let f = g.F.Flight.bits c.args.flight.now in
    let after = g.F.Flight.bits c.weak_command.new.flight in
    let did = weak_ok c.args.collector.now c.weak_command.new.self f after c.args.command c.weak_command.result
    c.weak_command.ensures.done c.weak_command.ensures.to_come c.in-Ok.reply c.in-Ok.is in
    replied c.write_last.result c.write_last.ensures.fault c.write_last.ensures.ok c.write_last.ensures.err
    (λ written. weak_writes c.args.collector.now c.weak_command.new.self f after c.args.command c.in-Ok.reply did
    _ _ written)
    (λ written. weak_breaks c.args.collector.now c.weak_command.new.self f after c.args.command c.in-Ok.reply did
    _ _ written)

pub returns-in-Ok-clause-flight : goal.returns-in-Ok-clause-flight
returns-in-Ok-clause-flight g c = record {
  sound = c.weak_command.ensures.sound;
  out = out_kept c.args.collector.now.heap.shape c.weak_command.new.self.heap.shape _ _ c.weak_command.ensures.words
      (ap g.F.Sweeping.left c.weak_command.ensures.origin) c.requires.flight.out;
}

pub returns-in-Err-Refused-clause-answer : goal.returns-in-Err-Refused-clause-answer
returns-in-Err-Refused-clause-answer g c =
    let f = g.F.Flight.bits c.args.flight.now in
    let after = g.F.Flight.bits c.weak_command.new.flight in
    let did = weak_refused c.args.collector.now c.weak_command.new.self f after c.args.command c.weak_command.result
    c.weak_command.ensures.done c.weak_command.ensures.to_come c.in-Err-Refused.why
    (c.in-Err-Refused.is ∙ ap (λ (x : CmdFault). Err x) c.in-Err-Refused.field-0-is) in
    let last = c.write_last-in-Err-Refused.ensures in
    replied c.write_last-in-Err-Refused.result last.fault last.ok last.err
    (λ written. weak_writes c.args.collector.now c.weak_command.new.self f after c.args.command
    (reply.Refused c.in-Err-Refused.why) did _ _ written)
    (λ written. weak_breaks c.args.collector.now c.weak_command.new.self f after c.args.command
    (reply.Refused c.in-Err-Refused.why) did _ _ written)

pub returns-in-Err-Refused-clause-flight : goal.returns-in-Err-Refused-clause-flight
returns-in-Err-Refused-clause-flight g c = record {
  sound = c.weak_command.ensures.sound;
  out = out_kept c.args.collector.now.heap.shape c.weak_command.new.self.heap.shape _ _ c.weak_command.ensures.words
      (ap g.F.Sweeping.left c.weak_command.ensures.origin) c.requires.flight.out;
}

pub returns-in-Err-NoMemory-clause-answer : goal.returns-in-Err-NoMemory-clause-answer
returns-in-Err-NoMemory-clause-answer g c =
    wanted (weak_stops c.args.collector.now (g.F.Flight.bits c.args.flight.now) c.args.command _ _
    (c.weak_command.ensures.wanted (c.in-Err-NoMemory.is ∙ ap (λ (x : CmdFault). Err x)
    c.in-Err-NoMemory.field-0-is)).watches (Appends-nil _))

pub returns-in-Err-NoMemory-clause-flight : goal.returns-in-Err-NoMemory-clause-flight
returns-in-Err-NoMemory-clause-flight g c = record {
  sound = c.weak_command.ensures.sound;
  out = out_kept c.args.collector.now.heap.shape c.weak_command.new.self.heap.shape _ _ c.weak_command.ensures.words
      (ap g.F.Sweeping.left c.weak_command.ensures.origin) c.requires.flight.out;
}

pub returns-in-Err-NoMemory-clause-sure : goal.returns-in-Err-NoMemory-clause-sure
returns-in-Err-NoMemory-clause-sure g c = λ none same.
    (let wants = c.weak_command.ensures.wanted (c.in-Err-NoMemory.is ∙ ap (λ (x : CmdFault). Err x)
    c.in-Err-NoMemory.field-0-is) in
    let sound = c.requires.flight.sound in
    wants_no_memory sound.world c.args.command (wants.watches sound.world sound.valid sound.represents) none)
