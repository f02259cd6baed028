use Rattle.roots.proofs.Buffering.{buffer_at-idle}
use Rattle.roots.proofs.roots_held.Roots.waiting.Goals as goal

pub returns-clause-idle : goal.returns-clause-idle
returns-clause-idle c = rw (← c.self.view_is) (buffer_at-idle _ c.self.inside.waiting.bits c.self.invariant.1)
