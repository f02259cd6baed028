use Rattle.std.proofs.Common.{◌∙◌}
use Rattle.weak_maps.specs.Delegates.{rows_of}
use Rattle.weak_maps.specs.Sides.{shown}
use Rattle.weak_maps.proofs.Rows.{key_listed, no_key_listed, none_listed}
use Rattle.weak_maps.proofs.delegates.Delegates.key_of_target.Goals as goal

pub returns-in_err-row-clause-key : goal.returns-in_err-row-clause-key
returns-in_err-row-clause-key c =
    c.from_residual.ensures
    ∙ rw (← c.self.view_is)
    (no_key_listed (λ row. row.target) (rows_of c.self.inside.rows) c.self.inside.by_target c.self.invariant.targets
    c.args.target c.args.index c.in_err-row.ensures.entry)

pub returns-clause-key : goal.returns-clause-key
returns-clause-key c =
    c.key_at.ensures
    ∙ rw (← c.self.view_is)
    (key_listed (λ row. row.target) (rows_of c.self.inside.rows) c.self.inside.by_target c.self.invariant.targets
    c.args.target c.args.index c.in_ok-row.row c.in_ok-row.ensures.entry)

pub returns-then-is_empty-clause-key : goal.returns-then-is_empty-clause-key
returns-then-is_empty-clause-key c =
    rw (← c.self.view_is)
    (none_listed c.self.inside.rows (λ row. row.target) c.args.target (shown c.self.inside.by_target.lists) c.args.index
    (c.is_empty.ensures.0 c.if-is_empty.true))
