use Rattle.weak_maps.specs.Delegates.{rows_of}
use Rattle.weak_maps.proofs.Rows.{no_rows}
use Rattle.weak_maps.proofs.Tying.{Starts-none, Starts-side}
use Rattle.weak_maps.proofs.delegates.Delegates.start.Goals as goal

pub returns-clause-target : goal.returns-clause-target
returns-clause-target c =
    rw (← c.self.view_is)
    (Starts-side (λ row. row.target) c.args.colour c.args.target (rows_of c.self.inside.rows) c.self.inside.by_target
    c.start.new.self c.self.invariant.targets c.start.ensures.left)

pub returns-then-is_empty-clause-target : goal.returns-then-is_empty-clause-target
returns-then-is_empty-clause-target c =
    rw (← c.self.view_is)
    (Starts-none (λ row. row.target) c.args.colour c.args.target (rows_of c.self.inside.rows)
    c.self.inside.by_target.left (no_rows c.self.inside.rows (c.is_empty.ensures.0 c.if-is_empty.true)))
