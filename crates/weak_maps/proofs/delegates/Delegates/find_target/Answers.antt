use Rattle.std.proofs.Common.{◌∙◌, sym, ap}
use Rattle.weak_maps.proofs.Rows.{target_at, target_in}
use Rattle.weak_maps.proofs.delegates.Delegates.find_target.Goals as goal

pub returns-in_err-delegate : goal.returns-in_err-delegate
returns-in_err-delegate c =
    c.from_residual.ensures
    ∙ rw (← c.self.view_is)
    (sym (target_at c.self.inside.rows c.args.map c.args.key ∙ ap target_in (sym c.in_err-delegate.ensures.value)))

pub returns : goal.returns
returns c =
    rw (← c.self.view_is)
    (sym (target_at c.self.inside.rows c.args.map c.args.key ∙ ap target_in (sym c.in_ok-delegate.ensures.value)))
