use Rattle.std.proofs.Common.{inl, inr, refl}
use Rattle.std.proofs.lemmas.Result.{IfOk-weaker}
use Rattle.judge.proofs.answers.begin.Goals as goal

pub returns-in-Some : goal.returns-in-Some
returns-in-Some c =
    IfOk-weaker c.only.result _ _ (λ a e. inl (c.in-Some.why, c.in-Some.ensures.some, e, refl)) c.only.ensures

pub returns : goal.returns
returns c =
    let none = c.in_default.ensures in
    let begun = c.in_ok-begin.ensures in
    IfOk-weaker c.begun.result _ _ (λ a e. inr (none.idle, none.made, e, begun.left_out, begun.shows)) c.begun.ensures
