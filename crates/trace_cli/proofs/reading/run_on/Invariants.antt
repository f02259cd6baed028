use Rattle.std.proofs.Common.{◌≡◌, []}
use Rattle.slice_driver.specs.Units.{none_flown}
use Rattle.trace_cli.specs.Pauses.{PausesSo}
use Rattle.trace_cli.specs.Standing.{Entry, Standing}
use Rattle.trace_cli.proofs.reading.run_on.Given as goal

abbrev pub invariant-loop : goal.invariant-loop
invariant-loop g l = record {
  machine : l.replaying.machine.ghost_name ≡ l.initial.replaying.machine.ghost_name;
  source : l.replaying.source.ghost_name ≡ l.initial.replaying.source.ghost_name;
  sink : l.replaying.sink.ghost_name ≡ l.initial.replaying.sink.ghost_name;
  steps : l.replaying.steps.ghost_name ≡ l.initial.replaying.steps.ghost_name;
  pause : l.replaying.pause.ghost_name ≡ l.initial.replaying.pause.ghost_name;
  ledger : l.replaying.machine.now.collector.heap.ledger
      ≡ l.initial.replaying.machine.now.collector.heap.ledger;
  lender : g.S.CommandSource.lender l.replaying.source.now
      ≡ g.S.CommandSource.lender l.initial.replaying.source.now;
  pauses : (e : Entry) → Standing e l.initial.replaying.machine.now
      (g.S.CommandSource.input l.initial.replaying.source.now) (g.K.Sink.written l.initial.replaying.sink.now)
      (g.K.Sink.faults l.initial.replaying.sink.now) [] none_flown
      → PausesSo l.replaying.pause.now e l.replaying.machine.now (g.S.CommandSource.input l.replaying.source.now)
      (g.K.Sink.written l.replaying.sink.now) (g.K.Sink.faults l.replaying.sink.now)
      (g.K.Sink.behind l.replaying.sink.now) [] none_flown;
}
