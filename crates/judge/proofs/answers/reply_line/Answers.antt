use Rattle.std.proofs.Common.{◌∙◌, refl}
use Rattle.judge.proofs.answers.reply_line.Goals as goal

pub returns-then-is_same : goal.returns-then-is_same
returns-then-is_same c = λ g s. (c.is_same.ensures.0 c.if-is_same.true ∙ c.as_slice.ensures.value, refl, refl)
