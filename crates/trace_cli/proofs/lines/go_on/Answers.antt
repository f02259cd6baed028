use Rattle.std.proofs.Common.{ap, sym, ◌∙◌, Ok, Err}
use Rattle.slice_driver.specs.Collector.{CollectorState}
use Rattle.trace_cli.specs.declared.answer.AnswerFault.{AnswerFault}
use Rattle.trace_cli.specs.declared.machine.Pause.{Pause}
use Rattle.trace_cli.proofs.Closing.{from_err, from_ok}
use Rattle.trace_cli.proofs.Going.{below_at, few_at, opened_amid, stands_at}
use Rattle.trace_cli.proofs.Going.{amid_broken, amid_over, amid_pauses, amid_unended, amid_wanting}
use Rattle.trace_cli.proofs.Going.{turn_over}
use Rattle.trace_cli.proofs.lines.go_on.Goals as goal

pub answer_pending-requires-clause-flight : goal.answer_pending-requires-clause-flight
answer_pending-requires-clause-flight g c = stands_at c.requires.amid c.requires.standing

pub answer_pending-requires-clause-few : goal.answer_pending-requires-clause-few
answer_pending-requires-clause-few g c = few_at c.requires.amid c.requires.standing

pub end_line-requires : goal.end_line-requires
end_line-requires g c = below_at c.requires.amid c.requires.standing

pub returns-else-is_err-clause-pauses : goal.returns-else-is_err-clause-pauses
returns-else-is_err-clause-pauses g c = λ e s.
    let did = c.in-Ok-None.ensures in
    let ended = from_ok c.end_line.result (sym c.is_err.ensures.value ∙ c.if-is_err.false) c.end_line.ensures.ok in
    amid_over e c.args.machine.now _ c.args.pending c.answer_pending.new.left _ _ _ _ _ _ _ _ _ _ _
    c.answer_pending.new.collector c.in-Ok-None.field-0 (opened_amid c.requires.amid s) did.ok did.size did.flight
    did.faults.same c.in-Ok-None.field-0-is (did.over (ap (λ (t : Pause). Ok t) c.in-Ok-None.field-0-is)) ended.0
    ended.1

pub returns-else-is_err-clause-fewer : goal.returns-else-is_err-clause-fewer
returns-else-is_err-clause-fewer g c = λ e.
    let ended = from_ok c.end_line.result (sym c.is_err.ensures.value ∙ c.if-is_err.false) c.end_line.ensures.ok in
    turn_over c.args.machine.now _ c.answer_pending.new.collector c.args.pending c.requires.amid
    (below_at c.requires.amid c.requires.standing) ended.0.0

pub returns-then-is_err-clause-pauses : goal.returns-then-is_err-clause-pauses
returns-then-is_err-clause-pauses g c = λ e s.
    let did = c.in-Ok-None.ensures in
    let broken = from_err c.end_line.result (sym c.is_err.ensures.value ∙ c.if-is_err.true) c.end_line.ensures.err in
    amid_unended e c.args.machine.now _ c.args.pending c.answer_pending.new.left _ _ _ _ _ _ _ _ _ _ _ _
    c.answer_pending.new.collector c.in-Ok-None.field-0 (opened_amid c.requires.amid s) did.ok did.size did.flight
    did.faults.same c.in-Ok-None.field-0-is (did.over (ap (λ (t : Pause). Ok t) c.in-Ok-None.field-0-is)) broken.0
    broken.1

pub returns-else-is_err-clause-ledger : goal.returns-else-is_err-clause-ledger
returns-else-is_err-clause-ledger g c = ap (λ (d : CollectorState). d.heap.ledger) c.end_line.ensures.kept
    ∙ c.in-Ok-None.ensures.size.ledger

pub returns-then-is_err-clause-ledger : goal.returns-then-is_err-clause-ledger
returns-then-is_err-clause-ledger g c = ap (λ (d : CollectorState). d.heap.ledger) c.end_line.ensures.kept
    ∙ c.in-Ok-None.ensures.size.ledger

pub returns-in-Ok-clause-pauses : goal.returns-in-Ok-clause-pauses
returns-in-Ok-clause-pauses g c = λ e s.
    let did = c.in-Ok.ensures in
    amid_pauses e c.args.machine.now c.args.pending c.answer_pending.new.left _ _ _ _ _ _ _ _ _ _
    c.answer_pending.new.collector c.in-Ok.pause (opened_amid c.requires.amid s) did.ok did.size did.flight
    did.faults.same did.by

pub returns-in-Err-Write-clause-pauses : goal.returns-in-Err-Write-clause-pauses
returns-in-Err-Write-clause-pauses g c = λ e s.
    let failed = ap (λ (f : AnswerFault). Err f) c.in-Err-Write.field-0-is in
    amid_broken e c.args.machine.now _ c.args.pending _ _ _ _ _ _ _ _ (opened_amid c.requires.amid s)
    (c.in-Err-Write.ensures.write failed) (c.in-Err-Write.ensures.faults.cause failed)

pub returns-in-Err-Memory-clause-pauses : goal.returns-in-Err-Memory-clause-pauses
returns-in-Err-Memory-clause-pauses g c = λ e s.
    let failed = ap (λ (f : AnswerFault). Err f) c.in-Err-Memory.field-0-is in
    amid_wanting e c.args.machine.now _ c.args.pending _ _ _ _ _ _ _ _ (opened_amid c.requires.amid s) _ _ _
    (c.in-Err-Memory.ensures.memory failed) c.in-Err-Memory.ensures.faults.later c.end_so.ensures.kept
    c.end_so.ensures.cause
