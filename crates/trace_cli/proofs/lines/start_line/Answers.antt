use Rattle.std.proofs.Common.{◌≢◌, ap, sym, ◌∙◌, refl, Err}
use Rattle.gz_names.specs.declared.commands.Cmd.{Cmd}
use Rattle.command_source.specs.declared.source.NextCommand.TheVariants as given
use Rattle.trace_cli.specs.declared.exit.Exit.TheVariants as exit
use Rattle.trace_cli.proofs.Closing.{from_err, from_ok}
use Rattle.trace_cli.proofs.Going.{most_at, opened_start, room_at, start_flushed, starts_at}
use Rattle.trace_cli.proofs.Going.{at_break, at_end, at_fault, at_limit, at_refusal, at_want, line_answered}
use Rattle.trace_cli.proofs.Going.{line_begun, turn_begun, turn_whole, unflushed}
use Rattle.trace_cli.proofs.Spelled.{fits_language}
use Rattle.trace_cli.proofs.lines.start_line.Goals as goal

end_or_fault : given.End ≢ given.ReadFault
end_or_fault e = cc e

command_or_fault : {command : Cmd} → given.Command command ≢ given.ReadFault
command_or_fault e = cc e

pub returns-then-is_err-clause-some : goal.returns-then-is_err-clause-some
returns-then-is_err-clause-some g c = λ e s.
    unflushed e c.args.machine.now _ _ _ _ _ _ _ _ _ (opened_start c.requires.between s) c.flush_before.ensures.kept
    (c.flush_before.ensures.faults.cause
    (from_err c.flush_before.result (sym c.is_err.ensures.value ∙ c.if-is_err.true) c.flush_before.ensures.fault))

pub returns-in-ReadFault-clause-some : goal.returns-in-ReadFault-clause-some
returns-in-ReadFault-clause-some g c = λ e s.
    let so = start_flushed c.flush_before.ensures.kept (from_ok c.flush_before.result
    (sym c.is_err.ensures.value ∙ c.if-is_err.false) c.flush_before.ensures.faults.same)
    (opened_start c.requires.between s) in
    at_fault e c.args.machine.now c.args.machine.now _ (g.S.CommandSource.input c.next.new.self) _ _ _ _ _ _ _ so
    c.end_so-in-ReadFault.result c.in-ReadFault.ensures.gives.0 c.in-ReadFault.ensures.gives.1
    (c.in-ReadFault.ensures.none_held refl) (c.in-ReadFault.ensures.fault refl) c.end_so-in-ReadFault.ensures.kept
    c.end_so-in-ReadFault.ensures.cause

pub returns-in-End-clause-some : goal.returns-in-End-clause-some
returns-in-End-clause-some g c = λ e s.
    let so = start_flushed c.flush_before.ensures.kept (from_ok c.flush_before.result
    (sym c.is_err.ensures.value ∙ c.if-is_err.false) c.flush_before.ensures.faults.same)
    (opened_start c.requires.between s) in
    at_end e c.args.machine.now c.args.machine.now _ (g.S.CommandSource.input c.next.new.self) _ _ _ _ _ _ _ so
    c.end_so-in-End.result c.in-End.ensures.gives.0 c.in-End.ensures.gives.1 (c.in-End.ensures.same end_or_fault)
    refl refl c.end_so-in-End.ensures.kept c.end_so-in-End.ensures.cause

pub returns-in-BadLine-clause-some : goal.returns-in-BadLine-clause-some
returns-in-BadLine-clause-some g c = λ e s.
    let so = start_flushed c.flush_before.ensures.kept (from_ok c.flush_before.result
    (sym c.is_err.ensures.value ∙ c.if-is_err.false) c.flush_before.ensures.faults.same)
    (opened_start c.requires.between s) in
    at_refusal e c.args.machine.now c.args.machine.now _ (g.S.CommandSource.input c.next.new.self) _ _ _ _ _ _ _ so
    c.end_so.result c.refusal.result c.in-BadLine.ensures.gives c.refusal.ensures c.end_so.ensures.kept
    c.end_so.ensures.cause

pub returns-then-machine-eq4294967295-clause-some : goal.returns-then-machine-eq4294967295-clause-some
returns-then-machine-eq4294967295-clause-some g c = λ e s.
    let so = start_flushed c.flush_before.ensures.kept (from_ok c.flush_before.result
    (sym c.is_err.ensures.value ∙ c.if-is_err.false) c.flush_before.ensures.faults.same)
    (opened_start c.requires.between s) in
    at_limit e c.args.machine.now c.args.machine.now _ (g.S.CommandSource.input c.next.new.self) _ _ _ _ _ _ _ so
    c.end_so-then-machine-eq4294967295.result c.in-Command.command c.in-Command.ensures.gives
    c.if-machine-eq4294967295.true c.end_so-then-machine-eq4294967295.ensures.kept
    c.end_so-then-machine-eq4294967295.ensures.cause

pub returns-in-Err-Memory-clause-some : goal.returns-in-Err-Memory-clause-some
returns-in-Err-Memory-clause-some g c = λ e s.
    let so = start_flushed c.flush_before.ensures.kept (from_ok c.flush_before.result
    (sym c.is_err.ensures.value ∙ c.if-is_err.false) c.flush_before.ensures.faults.same)
    (opened_start c.requires.between s) in
    at_want e c.args.machine.now _ _ (g.S.CommandSource.input c.next.new.self) _ _ _ _ _ _ _ so
    c.end_so-in-Err-Memory.result c.in-Command.command c.in-Command.ensures.gives _ _
    (c.in-Err-Memory.ensures.answer.memory (ap (λ e. Err e) c.in-Err-Memory.field-0-is))
    c.in-Err-Memory.ensures.faults.later c.end_so-in-Err-Memory.ensures.kept c.end_so-in-Err-Memory.ensures.cause

pub returns-in-Err-Write-clause-some : goal.returns-in-Err-Write-clause-some
returns-in-Err-Write-clause-some g c = λ e s.
    let so = start_flushed c.flush_before.ensures.kept (from_ok c.flush_before.result
    (sym c.is_err.ensures.value ∙ c.if-is_err.false) c.flush_before.ensures.faults.same)
    (opened_start c.requires.between s) in
    let failed = ap (λ e. Err e) c.in-Err-Write.field-0-is in
    at_break e c.args.machine.now _ _ (g.S.CommandSource.input c.next.new.self) _ _ _ _ _ _ _ so
    exit.WriteFault c.in-Command.command c.in-Command.ensures.gives (c.in-Err-Write.ensures.answer.write failed)
    (c.in-Err-Write.ensures.faults.cause failed)

pub start_command-requires-clause-flight : goal.start_command-requires-clause-flight
start_command-requires-clause-flight g c = starts_at c.requires.between c.requires.standing

pub start_command-requires-clause-room : goal.start_command-requires-clause-room
start_command-requires-clause-room g c =
    room_at c.requires.between c.if-machine-eq4294967295.false c.requires.standing

pub start_command-requires-clause-fits : goal.start_command-requires-clause-fits
start_command-requires-clause-fits g c =
    let gives = c.in-Command.ensures.gives in fits_language gives.line c.in-Command.command gives.spelt

pub returns-then-is_some-clause-none : goal.returns-then-is_some-clause-none
returns-then-is_some-clause-none g c = λ e s.
    let so = start_flushed c.flush_before.ensures.kept (from_ok c.flush_before.result
    (sym c.is_err.ensures.value ∙ c.if-is_err.false) c.flush_before.ensures.faults.same)
    (opened_start c.requires.between s) in
    let did = c.in-Ok.ensures in
    line_begun e c.args.machine.now _ (g.S.CommandSource.input c.next.new.self) _ _ _ _ _ _ _ _
    c.start_command.new.collector so c.if-machine-eq4294967295.false c.in-Command.command c.in-Command.ensures.gives
    did.flight did.size (c.in-Command.ensures.same command_or_fault) did.faults.same c.start_command.new.pending
    did.answer.ok (sym c.is_some.ensures ∙ c.if-is_some.true) (c.units_law.ensures _ did.flight.sound)

pub returns-then-is_some-clause-fewer : goal.returns-then-is_some-clause-fewer
returns-then-is_some-clause-fewer g c = turn_begun c.args.machine.now.answered c.args.machine.now.pending
    c.start_command.new.pending c.requires.between (sym c.is_some.ensures ∙ c.if-is_some.true)

pub returns-clause-none : goal.returns-clause-none
returns-clause-none g c = λ e s.
    let so = start_flushed c.flush_before.ensures.kept (from_ok c.flush_before.result
    (sym c.is_err.ensures.value ∙ c.if-is_err.false) c.flush_before.ensures.faults.same)
    (opened_start c.requires.between s) in
    let did = c.in-Ok.ensures in
    line_answered e c.args.machine.now _ (g.S.CommandSource.input c.next.new.self) _ _ _ _ _ _ _ _
    c.start_command.new.collector so c.if-machine-eq4294967295.false c.in-Command.command c.in-Command.ensures.gives
    did.flight did.size (c.in-Command.ensures.same command_or_fault) did.faults.same c.start_command.new.pending
    did.answer.ok (sym c.is_some.ensures ∙ c.if-is_some.false)

pub returns-clause-fewer : goal.returns-clause-fewer
returns-clause-fewer g c = turn_whole c.args.machine.now.answered c.args.machine.now.pending
    c.start_command.new.pending c.requires.between (most_at c.requires.between c.requires.standing)
