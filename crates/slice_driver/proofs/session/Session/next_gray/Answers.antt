use Rattle.std.proofs.Common.{ap}
use Rattle.slice_driver.proofs.marking.Sessions.{flies_sound}
use Rattle.slice_driver.proofs.taking_in.TakingDue.{out_kept}
use Rattle.slice_driver.proofs.session.Session.next_gray.Goals as goal

pub invariant_of-self : goal.invariant_of-self
invariant_of-self g c = (
  flies_sound _ _ _ _ c.next_gray.ensures.same c.self.invariant.0,
  out_kept _ _ _ _ (ap g.S.Sweeping.left c.next_gray.ensures.origin) (λ a freed is. is) c.self.invariant.1,
)
