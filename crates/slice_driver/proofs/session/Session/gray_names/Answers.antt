use Rattle.std.proofs.Common.{ap}
use Rattle.slice_driver.proofs.marking.Sessions.{flies_sound}
use Rattle.slice_driver.proofs.taking_in.TakingDue.{out_kept}
use Rattle.slice_driver.proofs.session.Session.gray_names.Goals as goal

pub invariant_of-self : goal.invariant_of-self
invariant_of-self g c = (
  flies_sound _ _ _ _ c.gray_names.ensures.same c.self.invariant.0,
  out_kept _ _ _ _ (ap g.S.Sweeping.left c.gray_names.ensures.origin) (λ a freed is. is) c.self.invariant.1,
)

pub invariant_of-self-2 : goal.invariant_of-self-2
invariant_of-self-2 g c = (
  flies_sound _ _ _ _ c.gray_names.ensures.same c.self.invariant.0,
  out_kept _ _ _ _ (ap g.S.Sweeping.left c.gray_names.ensures.origin) (λ a freed is. is) c.self.invariant.1,
)
