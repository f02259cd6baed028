use Rattle.wrappers.proofs.Finding.{AreApart-from_sound}
use Rattle.wrappers.proofs.wrapper_maps.Wrappers.has_none.Goals as goal

pub returns-clause-apart : goal.returns-clause-apart
returns-clause-apart c = rw (← c.self.view_is) (AreApart-from_sound _ c.self.inside.homes c.self.invariant)
