use Rattle.std.proofs.Common.{◌≡◌, ◌∙◌, ℕ, Result, Ok, Err, IsErrAnd, ap, refl, sym, subst}
use Rattle.slice_driver.specs.Pins.{PinCalled, as_fault}
use Rattle.slice_driver.specs.Sessions.{SessionState}
use Rattle.slice_driver.specs.declared.session.SessionFault.{SessionFault}
use Rattle.slice_driver.proofs.pinning.Sessions.{pin_called, pin_stands, told_pin}
use Rattle.slice_driver.proofs.taking_in.TakingDue.{out_kept}
use Rattle.slice_driver.proofs.session.Session.pin.Given.{Over}
use Rattle.slice_driver.proofs.session.Session.pin.Goals.{After-pin}
use Rattle.slice_driver.proofs.session.Session.pin.Goals as goal

pub invariant_of-self-2 : goal.invariant_of-self-2
invariant_of-self-2 g c =
    let stands = pin_stands c.self.inside.collector c.pin.new.self c.args.register c.pin.result c.pin.ensures in (
      stands.sound (g.S.Flight.bits c.self.inside.sweeper) c.self.invariant.0,
      out_kept _ _ _ _ refl stands.words c.self.invariant.1,
    )

-- the session with another collector
abbrev after : (g : Over) → After-pin g → SessionState g.row.S.Denot
after g c = record {
  collector = c.pin.new.self;
  sweeper = c.self.inside.sweeper;
  report = c.self.inside.report;
}

-- what came of the pin, told as a session tells it
told : (g : Over) (c : After-pin g) (r : Result ℕ SessionFault) → told_pin c.pin.result ≡ r
    → PinCalled g.S.Flight.bits c.args.self.now c.args.register r (after g c)
told g c r same =
    let old : SessionState g.row.S.Denot = record {
      collector = c.self.inside.collector;
      sweeper = c.self.inside.sweeper;
      report = c.self.inside.report;
    } in
    subst (λ (x : Result ℕ SessionFault). PinCalled g.S.Flight.bits c.args.self.now c.args.register x (after g c)) same
    (subst (λ (x : SessionState g.row.S.Denot). PinCalled g.S.Flight.bits x c.args.register (told_pin c.pin.result)
    (after g c)) c.self.view_is
    (pin_called g.S.Flight.bits old c.pin.new.self c.args.register c.pin.result c.pin.ensures))

err_is : {T E : Type 0} (r : Result T E) (why : E) → IsErrAnd r (λ other. other ≡ why) → Err why ≡ r
err_is (Ok x) why is = absurd is
err_is (Err other) why is = ap (λ e. Err e) (sym is)

pub returns-in_err-pin : goal.returns-in_err-pin
returns-in_err-pin g c =
    told g (goal.at.returns-in_err-pin g c).After-pin c.from_residual.result
    (ap told_pin c.in_err-pin.was
    ∙ err_is c.from_residual.result (as_fault c.in_err-pin.field-0.0) c.from_residual.ensures.1)

pub returns : goal.returns
returns g c = told g (goal.at.returns g c).After-pin (Ok c.in_ok-pin.field-0) (ap told_pin c.in_ok-pin.was)
