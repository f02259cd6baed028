use Rattle.std.proofs.Common.{◌≡◌, ◌+◌, drop, subst, sym}
use Rattle.std.proofs.lemmas.List.{drop-drop}
use Rattle.sweep_groups.proofs.GroupOrder.advance.Goals as goal

pub returns : goal.returns
returns c =
    subst (λ v. drop (c.self.inside.ended + 1) c.self.inside.groups ≡ drop 1 v) c.self.view_is
    (sym (drop-drop 1 c.self.inside.ended c.self.inside.groups))
