use Rattle.std.proofs.Common.{◌≡◌, ◌≢◌, ◌+◌, ◌++◌, ◌∷◌, arith, ap, get_or, refl, ◌∙◌, sym, subst}
use Rattle.std.specs.Fmt.{decimal}
use Rattle.std.proofs.lemmas.Option.{IfSome_then}
use Rattle.trace_lang.proofs.Decimals.{decimal_zero, digit_first, one_digit, only_one}
use Rattle.trace_lang.proofs.Decimals.{front_number, decimal_front, from_first}
use Rattle.trace_lang.proofs.Options.{match_by}
use Rattle.trace_lang.proofs.numbers.number.Goals as goal

pub returns-then-first-eq0-clause-some : goal.returns-then-first-eq0-clause-some
returns-then-first-eq0-clause-some c =
    let rest = c.args.rest.now in
    let text = (48 + c.args.first) ∷ rest in (
      omega (arith, c.requires.least),
      subst (λ k. text ≡ decimal k ++ rest) c.if-first-eq0.true
          (one_digit text rest c.args.first c.requires.digit refl),
    )

pub returns-then-first-eq0-clause-exact : goal.returns-then-first-eq0-clause-exact
returns-then-first-eq0-clause-exact c = λ n others h b e.
    let rest = c.args.rest.now in
    decimal_zero ((48 + c.args.first) ∷ rest) others rest n (omega (arith, h, c.requires.most)) (ap
    (λ k. (48 + k) ∷ rest) c.if-first-eq0.true) e

pub returns-then-digit_or_more-gt9-clause-some : goal.returns-then-digit_or_more-gt9-clause-some
returns-then-digit_or_more-gt9-clause-some c = (
  omega (arith, c.requires.digit, c.requires.least),
  one_digit ((48 + c.args.first) ∷ c.args.rest.now) c.args.rest.now c.args.first c.requires.digit refl,
)

pub returns-then-digit_or_more-gt9-clause-exact : goal.returns-then-digit_or_more-gt9-clause-exact
returns-then-digit_or_more-gt9-clause-exact c = λ n others h b e.
    only_one ((48 + c.args.first) ∷ c.args.rest.now) c.args.rest.now others c.args.first n c.requires.digit
    (omega (arith, h, c.requires.most)) refl
    (c.digit_or_more.ensures.more (omega (arith, c.if-digit_or_more-gt9.true))) b e

pub returns-clause-some : goal.returns-clause-some
returns-clause-some c =
    let rest = c.args.rest.now in
    let text = (48 + c.args.first) ∷ rest in
    let front = digit_first text rest c.args.first c.requires.digit refl in
    let from = from_first rest c.args.first c.requires.digit in
    let other : get_or text 0 0 ≢ 48 = λ z. omega (arith, z, front.2) in
    IfSome_then c.digits.result c.digits.ensures.some
    (λ p h. (
      h.0,
      front_number text p.1.now p.0 front.0 front.1 other (omega (arith, h.0, c.requires.most))
          (h.1 ∙ sym from.0) (h.2 ∙ sym from.1),
    ))

pub returns-clause-exact : goal.returns-clause-exact
returns-clause-exact c = λ n others h b e.
    let p = decimal_front ((48 + c.args.first) ∷ c.args.rest.now) others n (omega (arith, h, c.requires.most)) b e in
    let from = from_first c.args.rest.now c.args.first c.requires.digit in
    match_by c.digits.result c.digits.ensures.some c.digits.ensures.none (λ most. omega (arith, most, p.0, from.0, h))
    (λ q k. (k.1 ∙ sym from.0 ∙ sym p.0, k.2 ∙ sym from.1 ∙ sym p.1))
