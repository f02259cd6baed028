use Rattle.std.proofs.Common.{ap}
use Rattle.slice_driver.proofs.marking.Sessions.{counted_words, flies_sound}
use Rattle.slice_driver.proofs.taking_in.TakingDue.{out_kept}
use Rattle.slice_driver.proofs.session.Session.dump.Goals as goal

pub invariant_of-self : goal.invariant_of-self
invariant_of-self g c = (
  flies_sound _ _ _ _ c.dump.ensures.same c.self.invariant.0,
  out_kept _ _ _ _ (ap g.S.Sweeping.left c.dump.ensures.origin)
      (counted_words c.self.inside.collector _ _ c.dump.ensures.counted) c.self.invariant.1,
)

pub invariant_of-self-2 : goal.invariant_of-self-2
invariant_of-self-2 g c = (
  flies_sound _ _ _ _ c.dump.ensures.same c.self.invariant.0,
  out_kept _ _ _ _ (ap g.S.Sweeping.left c.dump.ensures.origin)
      (counted_words c.self.inside.collector _ _ c.dump.ensures.counted) c.self.invariant.1,
)
