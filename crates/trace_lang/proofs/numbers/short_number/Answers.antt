use Rattle.std.proofs.Common.{◌≡◌, ◌++◌, ◌∙◌, List, ℕ, false, ap, sym, refl, arith, drop, eqb, ltb}
use Rattle.std.proofs.lemmas.Bool.Decides.{nat_tests}
use Rattle.std.proofs.lemmas.List.{take_rest}
use Rattle.std.specs.Fmt.{decimal}
use mathlib.Core.Bool.{◌&&◌}
use Rattle.trace_lang.proofs.Decimals.{behind_digits, short_only, short_text}
use Rattle.trace_lang.proofs.numbers.short_number.Goals as goal
use Rattle.trace_lang.proofs.numbers.short_number.Goals.{then-n-limit-via-then-n-limit}
use Rattle.trace_lang.proofs.numbers.short_number.Goals.{then-n-limit-via-else-n-limit+then-is_padded}

pub returns-then-n-limit-clause-exact : goal.returns-then-n-limit-clause-exact
returns-then-n-limit-clause-exact c = λ n others h b e.
    let second = c.digit_or_more-second in
    let only =
    short_only c.args.rest.now c.args.first second.result c.requires.digit second.ensures.digit second.ensures.more
    _ refl n others (omega (arith, h, c.requires.most)) b e in
    let is = c.join_digits-n.ensures in
    elim c.then-n-limit.branch [
      | then-n-limit-via-then-n-limit w ↦ (let more = w.if-n-limit.true in grind (arith, only, is, more, h))
      | then-n-limit-via-else-n-limit+then-is_padded w ↦ (
          let padded = w.if-is_padded.true in
          let count = c.count_digit-more.ensures in
          grind (arith, nat_tests, only, padded, count))
    ]

pub returns-clause-some : goal.returns-clause-some
returns-clause-some c =
    let rest = c.args.rest.now in
    let second = c.digit_or_more-second in
    let more = c.count_digit-more in
    let fine : (ltb second.result 10 && eqb c.args.first 0) ≡ false =
    (let other = c.if-is_padded.false in let count = more.ensures in grind (arith, nat_tests, other, count)) in
    let others : behind_digits (ltb second.result 10) rest ≡ drop more.result rest =
    (let count = more.ensures in grind (arith, count)) in (
      c.if-n-limit.false,
      short_text rest c.args.first second.result c.requires.digit second.ensures.digit second.ensures.more _ refl fine
          ∙ ap (λ (k : ℕ). decimal k ++ behind_digits (ltb second.result 10) rest) (sym c.join_digits-n.ensures)
          ∙ ap (λ (t : List ℕ). decimal c.join_digits-n.result ++ t) (others ∙ sym (take_rest rest more.result)),
    )

pub returns-clause-exact : goal.returns-clause-exact
returns-clause-exact c = λ n others h b e.
    let rest = c.args.rest.now in
    let second = c.digit_or_more-second in
    let only =
    short_only rest c.args.first second.result c.requires.digit second.ensures.digit second.ensures.more
    _ refl n others (omega (arith, h, c.requires.most)) b e in
    let more = c.count_digit-more in
    let behind : behind_digits (ltb second.result 10) rest ≡ drop more.result rest =
    (let count = more.ensures in grind (arith, count)) in
    (c.join_digits-n.ensures ∙ only.0, take_rest rest more.result ∙ sym behind ∙ only.1)
