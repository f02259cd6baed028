use Rattle.std.proofs.Common.{sym, subst}
use Rattle.gz_names.specs.declared.commands.Cmd.{Cmd}
use Rattle.trace_cli.specs.Answering.{StartsCommand}
use Rattle.trace_cli.proofs.Started.{started}
use Rattle.trace_cli.proofs.answer.start_command.Goals as goal

pub returns-in-Graph-clause-answer : goal.returns-in-Graph-clause-answer
returns-in-Graph-clause-answer g c = subst (λ (d : Cmd). StartsCommand d c.args.pending.now c.args.collector.now
    (g.F.Flight.bits c.args.flight.now) c.answer_command.new.collector (g.F.Flight.bits c.answer_command.new.flight)
    (g.K.Sink.written c.args.sink.now) (g.K.Sink.written c.answer_command.new.sink) c.answer_command.result)
    (sym c.in-Graph.is)
    (started c.answer_command.result c.requires.none c.answer_command.ensures.answer)

pub returns-in-Collect-clause-answer : goal.returns-in-Collect-clause-answer
returns-in-Collect-clause-answer g c =
    subst (λ (d : Cmd). StartsCommand d c.begin_collect.new.pending c.args.collector.now
    (g.F.Flight.bits c.args.flight.now) c.begin_collect.new.collector (g.F.Flight.bits c.args.flight.now)
    (g.K.Sink.written c.args.sink.now) (g.K.Sink.written c.begin_collect.new.sink) c.begin_collect.result)
    (sym c.in-Collect.is)
    c.begin_collect.ensures.answer

pub returns-in-Colours-clause-answer : goal.returns-in-Colours-clause-answer
returns-in-Colours-clause-answer g c = subst (λ (d : Cmd). StartsCommand d c.args.pending.now c.args.collector.now
    (g.F.Flight.bits c.args.flight.now) c.args.collector.now (g.F.Flight.bits c.answer_colours.new.flight)
    (g.K.Sink.written c.args.sink.now) (g.K.Sink.written c.answer_colours.new.sink) c.answer_colours.result)
    (sym c.in-Colours.is)
    (started c.answer_colours.result c.requires.none c.answer_colours.ensures.answer)

pub returns-in-Dump-clause-answer : goal.returns-in-Dump-clause-answer
returns-in-Dump-clause-answer g c = subst (λ (d : Cmd). StartsCommand d c.args.pending.now c.args.collector.now
    (g.F.Flight.bits c.args.flight.now) c.args.collector.now (g.F.Flight.bits c.answer_dump.new.flight)
    (g.K.Sink.written c.args.sink.now) (g.K.Sink.written c.answer_dump.new.sink) c.answer_dump.result)
    (sym c.in-Dump.is)
    (started c.answer_dump.result c.requires.none c.answer_dump.ensures.answer)

pub returns-in-Gc-clause-answer : goal.returns-in-Gc-clause-answer
returns-in-Gc-clause-answer g c = subst (λ (d : Cmd). StartsCommand d c.args.pending.now c.args.collector.now
    (g.F.Flight.bits c.args.flight.now) c.gc.new.collector (g.F.Flight.bits c.args.flight.now)
    (g.K.Sink.written c.args.sink.now) (g.K.Sink.written c.gc.new.sink) c.gc.result) (sym c.in-Gc.is)
    (started c.gc.result c.requires.none c.gc.ensures.answer)

pub returns-in-Slice-clause-answer : goal.returns-in-Slice-clause-answer
returns-in-Slice-clause-answer g c = subst (λ (d : Cmd). StartsCommand d c.begin_slice.new.pending c.args.collector.now
    (g.F.Flight.bits c.args.flight.now) c.args.collector.now (g.F.Flight.bits c.args.flight.now)
    (g.K.Sink.written c.args.sink.now) (g.K.Sink.written c.begin_slice.new.sink) c.begin_slice.result)
    (sym c.in-Slice.is)
    c.begin_slice.ensures.answer

pub returns-in-Finish-clause-answer : goal.returns-in-Finish-clause-answer
returns-in-Finish-clause-answer g c =
    subst (λ (d : Cmd). StartsCommand d c.begin_finish.new.pending c.args.collector.now
    (g.F.Flight.bits c.args.flight.now) c.args.collector.now (g.F.Flight.bits c.args.flight.now)
    (g.K.Sink.written c.args.sink.now) (g.K.Sink.written c.begin_finish.new.sink) c.begin_finish.result)
    (sym c.in-Finish.is)
    c.begin_finish.ensures.answer

pub returns-in-Reset-clause-answer : goal.returns-in-Reset-clause-answer
returns-in-Reset-clause-answer g c = subst (λ (d : Cmd). StartsCommand d c.begin_reset.new.pending c.args.collector.now
    (g.F.Flight.bits c.args.flight.now) c.args.collector.now (g.F.Flight.bits c.args.flight.now)
    (g.K.Sink.written c.args.sink.now) (g.K.Sink.written c.begin_reset.new.sink) c.begin_reset.result)
    (sym c.in-Reset.is)
    c.begin_reset.ensures.answer

pub returns-in-Weak-clause-answer : goal.returns-in-Weak-clause-answer
returns-in-Weak-clause-answer g c = subst (λ (d : Cmd). StartsCommand d c.args.pending.now c.args.collector.now
    (g.F.Flight.bits c.args.flight.now) c.answer_weak.new.collector (g.F.Flight.bits c.answer_weak.new.flight)
    (g.K.Sink.written c.args.sink.now) (g.K.Sink.written c.answer_weak.new.sink) c.answer_weak.result)
    (sym c.in-Weak.is)
    (started c.answer_weak.result c.requires.none c.answer_weak.ensures.answer)

pub returns-in-Compact-clause-answer : goal.returns-in-Compact-clause-answer
returns-in-Compact-clause-answer g c = subst (λ (d : Cmd). StartsCommand d c.args.pending.now c.args.collector.now
    (g.F.Flight.bits c.args.flight.now) c.answer_compact.new.collector (g.F.Flight.bits c.args.flight.now)
    (g.K.Sink.written c.args.sink.now) (g.K.Sink.written c.answer_compact.new.sink) c.answer_compact.result)
    (sym c.in-Compact.is)
    (started c.answer_compact.result c.requires.none c.answer_compact.ensures.answer)
