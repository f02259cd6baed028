use Rattle.std.proofs.Common.{refl, subst}
use Rattle.slice_driver.specs.Pins.{LoadsIn, RootCalled}
use Rattle.slice_driver.specs.Sessions.{SessionState}
use Rattle.slice_driver.proofs.pinning.Sessions.{loads_rest, root_called, root_stands}
use Rattle.slice_driver.proofs.taking_in.TakingDue.{out_kept}
use Rattle.slice_driver.proofs.session.Session.load.Goals as goal

pub invariant_of-self : goal.invariant_of-self
invariant_of-self g c =
    let stands = root_stands (LoadsIn c.args.register c.args.root) c.self.inside.collector c.load.new.self
    c.args.root c.load.result c.load.ensures in (
      stands.sound (g.S.Flight.bits c.self.inside.sweeper) c.self.invariant.0,
      out_kept _ _ _ _ refl stands.words c.self.invariant.1,
    )

pub returns : goal.returns
returns g c =
    let after = c.load.new.self in
    let old : SessionState _ = record {
      collector = c.self.inside.collector;
      sweeper = c.self.inside.sweeper;
      report = c.self.inside.report;
    } in
    subst (λ (x : SessionState _). RootCalled g.S.Flight.bits (LoadsIn c.args.register c.args.root) x c.args.root
    c.load.result (record old { collector = after })) c.self.view_is
    (root_called g.S.Flight.bits old after (LoadsIn c.args.register c.args.root)
    (loads_rest c.args.register c.args.root) c.args.root c.load.result c.load.ensures)
