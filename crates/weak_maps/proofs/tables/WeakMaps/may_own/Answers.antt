use Rattle.weak_maps.proofs.Kept.{IsSound-kept}
use Rattle.weak_maps.proofs.tables.WeakMaps.may_own.Goals as goal

pub returns-clause-none : goal.returns-clause-none
returns-clause-none c = rw (← c.self.view_is) c.may_own.ensures.none

pub returns-clause-sound : goal.returns-clause-sound
returns-clause-sound c =
    rw (← c.self.view_is) (IsSound-kept c.self.inside.entries c.self.inside.delegates c.self.invariant)
