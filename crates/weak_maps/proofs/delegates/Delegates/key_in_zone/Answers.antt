use Rattle.std.proofs.Common.{◌∙◌}
use Rattle.weak_maps.specs.Delegates.{place_of_zone, rows_of}
use Rattle.weak_maps.specs.Sides.{shown}
use Rattle.weak_maps.proofs.Rows.{key_listed, no_key_listed, none_listed}
use Rattle.weak_maps.proofs.delegates.Delegates.key_in_zone.Goals as goal

pub returns-in_err-row-clause-key : goal.returns-in_err-row-clause-key
returns-in_err-row-clause-key c =
    c.from_residual.ensures
    ∙ rw (← c.self.view_is)
    (no_key_listed (λ row. place_of_zone row.zone) (rows_of c.self.inside.rows) c.self.inside.by_zone
    c.self.invariant.zones (place_of_zone c.args.zone)
    c.args.index (rw c.place_of.ensures at c.in_err-row.ensures.entry))

pub returns-clause-key : goal.returns-clause-key
returns-clause-key c =
    c.key_at.ensures
    ∙ rw (← c.self.view_is)
    (key_listed (λ row. place_of_zone row.zone) (rows_of c.self.inside.rows) c.self.inside.by_zone
    c.self.invariant.zones (place_of_zone c.args.zone)
    c.args.index c.in_ok-row.row (rw c.place_of.ensures at c.in_ok-row.ensures.entry))

pub returns-then-is_empty-clause-key : goal.returns-then-is_empty-clause-key
returns-then-is_empty-clause-key c =
    rw (← c.self.view_is)
    (none_listed c.self.inside.rows (λ row. place_of_zone row.zone) (place_of_zone c.args.zone)
    (shown c.self.inside.by_zone.lists) c.args.index (c.is_empty.ensures.0 c.if-is_empty.true))
