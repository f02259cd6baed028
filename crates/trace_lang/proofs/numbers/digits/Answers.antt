use Rattle.std.proofs.Common.{◌≡◌, ◌+◌, ◌-◌, ◌*◌, arith, ap, ◌∙◌, sym, [], length, drop, take, get_or}
use Rattle.std.proofs.lemmas.List.{take_rest, drop_all}
use Rattle.trace_lang.specs.Numbers.{front_digits, after_digits, read_on}
use Rattle.trace_lang.proofs.Decimals.{read_on-ge, next_digit, last_digit, last_after}
use Rattle.trace_lang.proofs.numbers.digits.Goals as goal
use Rattle.trace_lang.proofs.numbers.digits.Goals.{else-loop-digit-test, then-loop-digit-test+then-not-is_ascii_digit}

pub returns-then-n-limit-clause-none : goal.returns-then-n-limit-clause-none
returns-then-n-limit-clause-none c =
    let text = c.args.text.now in
    let i = c.loop-digit.digit-index in
    let n = c.loop-digit.n in
    let step : read_on n (front_digits (drop i text)) ≡ _ =
    next_digit text i n c.loop-digit-test.true (sym c.is_ascii_digit.ensures.value ∙ c.if-not-is_ascii_digit.false)
    in
    let count : read_on c.args.first (front_digits text) ≡ read_on n (front_digits (drop i text)) =
    c.loop-digit.invariant.2 ∙ ap (λ k. read_on n (front_digits (drop k text))) c.loop-digit.invariant.0 in
    omega (
      arith,
      count,
      step,
      read_on-ge (10 * n + (get_or text i 0 - 48)) (front_digits (drop (i + 1) text)),
      c.if-n-limit.true,
      c.from.ensures,
    )

pub returns-clause-some : goal.returns-clause-some
returns-clause-some c =
    let text = c.args.text.now in
    let k = c.loop-digit.count in
    let n = c.loop-digit.n in
    let same : take (length text - k) (drop k text) ≡ drop k text = take_rest text k in
    let ends : (read_on n (front_digits (drop k text)) ≡ n) × (after_digits (drop k text) ≡ drop k text) = elim
    c.loop-digit-test.branch [
      | else-loop-digit-test w ↦ (let none : drop k text ≡ [] = drop_all k text (omega arith) in (
        ap
            (λ t. read_on n (front_digits t)) none,
        ap after_digits none ∙ sym none,
      ))
      | then-loop-digit-test+then-not-is_ascii_digit w ↦ (let other = sym w.is_ascii_digit.ensures.value
          ∙ w.if-not-is_ascii_digit.true in
          let fits = w.loop-digit-test.true in (
            ap (λ j. read_on n (front_digits (drop j text))) c.loop-digit.invariant.0
                ∙ last_digit text c.loop-digit.digit-index n fits other,
            ap (λ j. after_digits (drop j text)) c.loop-digit.invariant.0 ∙ last_after text c.loop-digit.digit-index
                fits other ∙ ap (λ j. drop j text) (sym c.loop-digit.invariant.0),
          ))
    ] in (
      c.loop-digit.invariant.1,
      sym ends.0 ∙ sym c.loop-digit.invariant.2,
      same ∙ sym ends.1
          ∙ sym c.loop-digit.invariant.3,
    )
