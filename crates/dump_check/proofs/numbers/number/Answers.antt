use Rattle.std.proofs.Common.{◌+◌, ◌∷◌, arith, ap, ◌∙◌, sym}
use Rattle.std.proofs.lemmas.Option.{IfSome_then}
use Rattle.dump_check.proofs.Decimals.{no_decimal, decimal_zero, zero_front, decimal_front, number_of_digits}
use Rattle.dump_check.proofs.Options.{match_by}
use Rattle.dump_check.proofs.numbers.number.Goals as goal

pub returns-in_err-first-clause-exact : goal.returns-in_err-first-clause-exact
returns-in_err-first-clause-exact c =
    λ n rest h b e. absurd (no_decimal c.args.text.now rest n h c.in_err-first.ensures.none e)

pub returns-then-first-eq0-clause-some : goal.returns-then-first-eq0-clause-some
returns-then-first-eq0-clause-some c =
    let zero = c.in_ok-first.ensures.some.1 ∙ ap (λ k. (48 + k) ∷ c.in_ok-first.rest.now) c.if-first-eq0.true in
    (omega arith, zero_front c.args.text.now c.in_ok-first.rest.now zero)

pub returns-then-first-eq0-clause-exact : goal.returns-then-first-eq0-clause-exact
returns-then-first-eq0-clause-exact c = λ n rest h b e.
    let zero = c.in_ok-first.ensures.some.1 ∙ ap (λ k. (48 + k) ∷ c.in_ok-first.rest.now) c.if-first-eq0.true in
    decimal_zero c.args.text.now rest c.in_ok-first.rest.now n h zero e

pub returns-else-first-eq0-clause-some : goal.returns-else-first-eq0-clause-some
returns-else-first-eq0-clause-some c =
    let d = c.in_ok-first.ensures.some in
    IfSome_then c.digits.result c.digits.ensures.some
    (λ p h. (
      h.0,
      number_of_digits c.args.text.now c.in_ok-first.rest.now p.1.now c.in_ok-first.first p.0 d.0
          c.if-first-eq0.false d.1 h.0 h.1 h.2,
    ))

pub returns-else-first-eq0-clause-exact : goal.returns-else-first-eq0-clause-exact
returns-else-first-eq0-clause-exact c = λ n rest h b e.
    let p = decimal_front c.args.text.now rest n h b e in
    match_by c.digits.result c.digits.ensures.some c.digits.ensures.none (λ most. omega (arith, most, p.0, h))
    (λ q k. (k.1 ∙ sym p.0, k.2 ∙ sym p.1))
