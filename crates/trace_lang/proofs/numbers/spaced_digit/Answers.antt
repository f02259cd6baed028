use Rattle.std.proofs.Common.{◌∷◌, [], arith, rules}
use Rattle.trace_lang.proofs.Decimals.{digit_next}
use Rattle.trace_lang.proofs.numbers.spaced_digit.Goals as goal

pub returns-in_err-digit-in-32-clause-exact : goal.returns-in_err-digit-in-32-clause-exact
returns-in_err-digit-in-32-clause-exact c = λ n rest h b e.
    let first = digit_next c.args.text.now (32 ∷ []) rest n (omega (arith, h, c.requires.most)) e in
    let other = c.in_err-digit-in-32.ensures.none in absurd (cc (first.1, other))

pub returns-in_default-clause-exact : goal.returns-in_default-clause-exact
returns-in_default-clause-exact c = λ n rest h b e.
    let first = digit_next c.args.text.now (32 ∷ []) rest n (omega (arith, h, c.requires.most)) e in
    search (rules, e, first)
