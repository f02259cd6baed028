use Rattle.std.proofs.Common.{refl, subst}
use Rattle.slice_driver.specs.Pins.{UnpinsIn, RootCalled}
use Rattle.slice_driver.specs.Sessions.{SessionState}
use Rattle.slice_driver.proofs.pinning.Sessions.{unpins_rest, root_called, root_stands}
use Rattle.slice_driver.proofs.taking_in.TakingDue.{out_kept}
use Rattle.slice_driver.proofs.session.Session.unpin.Goals as goal

pub invariant_of-self : goal.invariant_of-self
invariant_of-self g c =
    let stands = root_stands (UnpinsIn c.args.root) c.self.inside.collector c.unpin.new.self
    c.args.root c.unpin.result c.unpin.ensures in (
      stands.sound (g.S.Flight.bits c.self.inside.sweeper) c.self.invariant.0,
      out_kept _ _ _ _ refl stands.words c.self.invariant.1,
    )

pub returns : goal.returns
returns g c =
    let after = c.unpin.new.self in
    let old : SessionState _ = record {
      collector = c.self.inside.collector;
      sweeper = c.self.inside.sweeper;
      report = c.self.inside.report;
    } in
    subst (λ (x : SessionState _). RootCalled g.S.Flight.bits (UnpinsIn c.args.root) x c.args.root
    c.unpin.result (record old { collector = after })) c.self.view_is
    (root_called g.S.Flight.bits old after (UnpinsIn c.args.root) (unpins_rest c.args.root) c.args.root
    c.unpin.result c.unpin.ensures)
