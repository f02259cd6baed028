use Rattle.std.proofs.Common.{inl, refl}
use Rattle.judge.proofs.answers.dump.Goals as goal

pub returns : goal.returns
returns c =
    inl (c.is_settled.ensures.0 c.if-not-is_settled.false, c.in_ok-lines.lines.items, c.in_ok-lines.ensures, refl)
