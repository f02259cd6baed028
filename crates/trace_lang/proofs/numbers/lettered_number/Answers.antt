use Rattle.std.proofs.Common.{◌∷◌, [], arith, rules}
use Rattle.trace_lang.proofs.Decimals.{digit_next}
use Rattle.trace_lang.proofs.numbers.lettered_number.Goals as goal

pub returns-in_err-digit-in-len3-up-clause-exact : goal.returns-in_err-digit-in-len3-up-clause-exact
returns-in_err-digit-in-len3-up-clause-exact c = λ n rest h b e.
    let first = digit_next c.args.text.now (32 ∷ c.args.letter ∷ []) rest n (omega (arith, h, c.requires.most)) e in
    let other = c.in_err-digit-in-len3-up.ensures.none in absurd (cc (first.1, other))

pub returns-in_default-clause-exact : goal.returns-in_default-clause-exact
returns-in_default-clause-exact c = λ n rest h b e.
    let first = digit_next c.args.text.now (32 ∷ c.args.letter ∷ []) rest n (omega (arith, h, c.requires.most)) e in
    search (rules, e, first)
