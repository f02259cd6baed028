use Rattle.std.proofs.Common.{◌≤◌, ℕ, refl, sym, subst}
use Rattle.slice_driver.specs.SessionCommands.{SessionDoes}
use Rattle.slice_driver.specs.Sessions.{SessionState, as_reply, replied}
use Rattle.slice_driver.proofs.marking.SessionCommands.{session_does, session_full}
use Rattle.slice_driver.proofs.marking.SessionReports.{graph_reply}
use Rattle.slice_driver.proofs.marking.Sessions.{does_counted}
use Rattle.slice_driver.proofs.session.Session.command.Goals as goal

pub command-outcome-requires-clause-few : goal.command-outcome-requires-clause-few
command-outcome-requires-clause-few g c = c.has_room.ensures.room c.if-not-has_room.false c.self.inside.collector.heap
    (sym c.made.ensures)

pub result_of-requires-clause-graph : goal.result_of-requires-clause-graph
result_of-requires-clause-graph g c =
    let after = c.command-outcome.new in
    graph_reply c.self.inside.collector (g.S.Flight.bits c.self.inside.sweeper) c.args.cmd c.command-outcome.result
    after.collector (g.S.Flight.bits after.sweeper) c.self.invariant.0
    (does_counted _ _ _ _ _ _ _ c.command-outcome.ensures.done.done)

pub returns-then-not-has_room : goal.returns-then-not-has_room
returns-then-not-has_room g c = record {
  done = session_full g.S.Flight.bits c.args.cmd c.args.self.now
      (subst (λ (x : SessionState _). 4294967295 ≤ x.collector.heap.made) c.self.view_is
      (subst (λ (n : ℕ). 4294967295 ≤ n) c.made.ensures (c.has_room.ensures.full c.if-not-has_room.true)));
}

pub returns : goal.returns
returns g c =
    let before = c.self.inside in
    let after = c.command-outcome.new in
    record {
      done = subst (λ (x : SessionState _). SessionDoes g.S.Flight.bits c.args.cmd
          (replied as_reply c.result_of.result) x
          (record { collector = after.collector; sweeper = after.sweeper; report = before.report }))
          c.self.view_is (session_does g.S.Flight.bits g.S.Flight.origin
          (record { collector = before.collector; sweeper = before.sweeper; report = before.report })
          (record { collector = after.collector; sweeper = after.sweeper; report = before.report }) (record {
            cmd = c.args.cmd;
            outcome = c.command-outcome.result;
            result = replied as_reply c.result_of.result;
            ledger = _;
            sound = c.self.invariant.0;
            by = c.command-outcome.ensures.done;
            is = c.result_of.ensures;
            report = refl;
          }));
    }
