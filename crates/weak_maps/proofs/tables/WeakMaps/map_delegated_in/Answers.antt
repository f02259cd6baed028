use Rattle.std.proofs.Common.{◌∙◌, Some, None}
use Rattle.weak_maps.specs.WeakMaps.{state_with}
use Rattle.weak_maps.proofs.Kept.{IsSound-kept, map_listed}
use Rattle.weak_maps.proofs.tables.WeakMaps.map_delegated_in.Goals as goal

pub returns-in_err-key-clause-sound : goal.returns-in_err-key-clause-sound
returns-in_err-key-clause-sound c =
    rw (← c.self.view_is) (IsSound-kept c.self.inside.entries c.self.inside.delegates c.self.invariant)

pub returns-clause-sound : goal.returns-clause-sound
returns-clause-sound c =
    rw (← c.self.view_is) (IsSound-kept c.self.inside.entries c.self.inside.delegates c.self.invariant)

pub returns-in_err-key-clause-map : goal.returns-in_err-key-clause-map
returns-in_err-key-clause-map c =
    c.from_residual.ensures
    ∙ rw (← c.self.view_is)
    (map_listed (state_with c.self.inside.entries c.self.inside.delegates).table c.args.zone c.args.index None
    c.in_err-key.ensures.key)

pub returns-clause-map : goal.returns-clause-map
returns-clause-map c =
    rw (← c.self.view_is)
    (map_listed (state_with c.self.inside.entries c.self.inside.delegates).table c.args.zone c.args.index
    (Some c.in_ok-key.key) c.in_ok-key.ensures.key)
