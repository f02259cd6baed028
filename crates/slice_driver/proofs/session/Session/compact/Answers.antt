use Rattle.std.proofs.Common.{refl, subst}
use Rattle.slice_driver.specs.Compacting.{CompactCalled}
use Rattle.slice_driver.specs.Sessions.{SessionState}
use Rattle.slice_driver.proofs.marking.CompactAccounts.{compact_frees_on}
use Rattle.slice_driver.proofs.taking_in.TakingDue.{out_kept}
use Rattle.slice_driver.proofs.session.Session.compact.Goals as goal

pub compact-requires : goal.compact-requires
compact-requires g c = (g.S.Flight.bits c.self.inside.sweeper, c.self.invariant.0)

pub invariant_of-self : goal.invariant_of-self
invariant_of-self g c = (
  c.compact.ensures.sound (g.S.Flight.bits c.self.inside.sweeper) c.self.invariant.0,
  out_kept _ _ _ _ refl c.compact.ensures.words c.self.invariant.1,
)

pub returns : goal.returns
returns g c =
    let after = c.compact.new.self in
    let old : SessionState _ = record {
      collector = c.self.inside.collector;
      sweeper = c.self.inside.sweeper;
      report = c.self.inside.report;
    } in
    subst (λ (x : SessionState _). CompactCalled g.S.Flight.bits x c.args.zone c.compact.result
    (record old { collector = after })) c.self.view_is
    (record {
      done = c.compact.ensures;
      sweeper = refl;
      report = refl;
      accounts = compact_frees_on c.self.inside.collector (g.S.Flight.bits c.self.inside.sweeper) after c.args.zone
          c.compact.result c.compact.ensures.done c.compact.ensures.err;
    })
