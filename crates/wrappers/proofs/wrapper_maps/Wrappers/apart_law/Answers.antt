use Rattle.wrappers.proofs.Finding.{AreApart-from_sound}
use Rattle.wrappers.proofs.wrapper_maps.Wrappers.apart_law.Goals as goal

pub returns : goal.returns
returns c = rw (← c.self.view_is) (AreApart-from_sound _ c.self.inside.homes c.self.invariant)
