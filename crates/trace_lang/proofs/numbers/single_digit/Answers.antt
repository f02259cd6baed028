use Rattle.std.proofs.Common.{◌+◌, ◌∷◌, arith, refl}
use Rattle.trace_lang.proofs.Decimals.{is_digit, one_digit}
use Rattle.trace_lang.proofs.numbers.single_digit.Goals as goal

pub returns-then-first-limit-clause-some : goal.returns-then-first-limit-clause-some
returns-then-first-limit-clause-some c = (
  c.if-first-limit.true,
  one_digit ((48 + c.args.first) ∷ c.args.rest.now) c.args.rest.now c.args.first c.requires.digit refl,
)

pub returns-then-first-limit-clause-exact : goal.returns-then-first-limit-clause-exact
returns-then-first-limit-clause-exact c = λ n others h b e.
    is_digit c.args.rest.now others c.args.first n (omega (arith, h, c.requires.most)) e

pub returns-else-first-limit-clause-exact : goal.returns-else-first-limit-clause-exact
returns-else-first-limit-clause-exact c = λ n others h b e.
    let is = is_digit c.args.rest.now others c.args.first n (omega (arith, h, c.requires.most)) e in
    omega (arith, is.0, h, c.if-first-limit.false)
