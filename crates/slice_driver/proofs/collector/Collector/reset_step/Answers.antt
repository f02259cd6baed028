use Rattle.std.proofs.Common.{refl}
use Rattle.slice_driver.proofs.resetting.ResetSteps.{resets_stop, resets_sweep}
use Rattle.slice_driver.proofs.collector.Collector.reset_step.Goals as goal

pub returns-in-Some-clause-done : goal.returns-in-Some-clause-done
returns-in-Some-clause-done g c = resets_sweep _ _ _ _ _ c.take_due.result _ _ _ _ _ c.in-Some.arena
    c.in-Some.ensures.some c.take_due.ensures.takes c.take_due.ensures.told c.swept.ensures

pub returns-clause-done : goal.returns-clause-done
returns-clause-done g c = resets_stop _ _ _ _ _ _ _ c.give_up.result c.in_default.ensures.none c.give_up.ensures.done
    refl c.swept-2.ensures
