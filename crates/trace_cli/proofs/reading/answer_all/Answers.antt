use Rattle.std.proofs.Common.{ap, rules}
use Rattle.slice_driver.specs.Collector.{CollectorState}
use Rattle.trace_cli.specs.Standing.{somewhere}
use Rattle.trace_cli.proofs.Going.{new_counted, new_stands}
use Rattle.trace_cli.proofs.reading.answer_all.Goals as goal

pub run_on-requires-clause-counted : goal.run_on-requires-clause-counted
run_on-requires-clause-counted g c = λ κs within.
    ap (λ (d : CollectorState). d.heap.ledger) c.count_edges-steps.ensures.ledger

pub run_on-requires-clause-standing : goal.run_on-requires-clause-standing
run_on-requires-clause-standing g c = λ κs within. somewhere _
    (new_stands _ (g.S.CommandSource.input c.args.source.now) (g.K.Sink.written c.args.sink.now)
    (g.K.Sink.faults c.args.sink.now) (new_counted c.args.machine.now c.count_edges-steps.new.self _
    c.count_edges-steps.ensures.ledger c.count_edges-steps.ensures.worlds c.requires.new) c.requires.untaken)

pub returns-clause-ended : goal.returns-clause-ended
returns-clause-ended g c =
    let ended = c.run_on.ensures.ended _
    (new_stands _ (g.S.CommandSource.input c.args.source.now) (g.K.Sink.written c.args.sink.now)
    (g.K.Sink.faults c.args.sink.now) (new_counted c.args.machine.now c.count_edges-steps.new.self _
    c.count_edges-steps.ensures.ledger c.count_edges-steps.ensures.worlds c.requires.new) c.requires.untaken) in
    search rules
