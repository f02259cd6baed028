use Rattle.std.proofs.Common.{subst}
use Rattle.slice_driver.specs.Sessions.{SessionState}
use Rattle.slice_driver.specs.WeakCalls.{WeakCalled}
use Rattle.slice_driver.proofs.marking.WeakSessions.{weak_called, weak_counted, weak_reply}
use Rattle.slice_driver.proofs.session.Session.weak_command.Goals as goal

pub result_of-requires-clause-graph : goal.result_of-requires-clause-graph
result_of-requires-clause-graph g c =
    let after = c.weak_command-outcome.new in
    weak_reply c.self.inside.collector (g.S.Flight.bits c.self.inside.sweeper) c.args.cmd c.weak_command-outcome.result
    after.collector (g.S.Flight.bits after.sweeper) c.self.invariant.0
    (weak_counted _ _ _ _ _ _ _ c.weak_command-outcome.ensures.done.done)

pub returns : goal.returns
returns g c =
    let after = c.weak_command-outcome.new in
    let old : SessionState _ = record {
      collector = c.self.inside.collector;
      sweeper = c.self.inside.sweeper;
      report = c.self.inside.report;
    } in (
      c.weak_command-outcome.result,
      c.result_of.ensures,
      subst (λ (x : SessionState _). WeakCalled g.S.Flight.bits x c.args.cmd c.weak_command-outcome.result
          (record old { collector = after.collector; sweeper = after.sweeper })) c.self.view_is
          (weak_called g.S.Flight.bits g.S.Flight.origin old _ c.args.cmd c.weak_command-outcome.result after.collector
          after.sweeper c.self.invariant.0 c.weak_command-outcome.ensures.done),
    )
