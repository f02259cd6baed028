use Rattle.weak_maps.proofs.Kept.{IsSound-kept}
use Rattle.weak_maps.proofs.tables.WeakMaps.last_of.Goals as goal

pub returns-in_err-index-clause-sound : goal.returns-in_err-index-clause-sound
returns-in_err-index-clause-sound c =
    rw (← c.self.view_is) (IsSound-kept c.self.inside.entries c.self.inside.delegates c.self.invariant)

pub returns-clause-sound : goal.returns-clause-sound
returns-clause-sound c =
    rw (← c.self.view_is) (IsSound-kept c.self.inside.entries c.self.inside.delegates c.self.invariant)
