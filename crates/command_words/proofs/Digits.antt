-- Numbers in plain decimal digits, as clap reads them.
use Rattle.std.proofs.Common.{◌≡◌, ◌<◌, ◌≤◌, ◌^◌, ℕ, List, [], ◌∷◌, true, false, refl, sym, subst, ◌∙◌, ap, arith}
use Rattle.std.specs.Fmt.{decimal}
use Rattle.std.specs.Str.Parse.{IsNumeral, digits_value, without_leading_plus}
use Rattle.std.proofs.lemmas.Fmt.{decimal_is_IsNumeral}
use Rattle.std.proofs.lemmas.Str.Parse.{digit_from_value, without_leading_plus_none}
use Rattle.clap.specs.ValueTests.{accepts}
use Rattle.clap.specs.declared.builder.value_parser.ValueParser.TheVariants.{Unsigned}
use Rattle.clap.proofs.ValueTestLemmas.{Accepts-accepts}

-- a text that begins with a digit
pub record HasFirstDigit (text : List ℕ) : Type 0 where
  pub first : ℕ
  pub rest : List ℕ
  pub parts : text ≡ first ∷ rest
  pub low : 48 ≤ first
  pub high : first ≤ 57

numeral_first : (text : List ℕ) → IsNumeral 10 text → HasFirstDigit text
numeral_first [] h = absurd (let some = h.0 in omega (arith, some))
numeral_first (c ∷ cs) h =
    let digit = digit_from_value c h.1.0 in
    record { first = c; rest = cs; parts = refl; low = omega (arith, digit); high = omega (arith, digit) }

pub decimal_first : (n : ℕ) → n < 2 ^ 64 → HasFirstDigit (decimal n)
decimal_first n small = numeral_first (decimal n) (decimal_is_IsNumeral n small).0

no_plus : (text : List ℕ) → HasFirstDigit text → without_leading_plus text ≡ text
no_plus text h =
    subst (λ (t : List ℕ). without_leading_plus t ≡ t) (sym h.parts)
    (without_leading_plus_none (h.first ∷ h.rest) (λ e. omega (arith, e, h.low)))

-- what is read is the number itself
pub decimal_reads : (n : ℕ) → n < 2 ^ 64 → digits_value 10 (without_leading_plus (decimal n)) ≡ n
decimal_reads n small =
    ap (digits_value 10) (no_plus (decimal n) (decimal_first n small)) ∙ (decimal_is_IsNumeral n small).1

-- a number in its range is taken
pub decimal_accepted : (low high n : ℕ) → n < 2 ^ 64 → low ≤ n → n ≤ high
    → accepts false (Unsigned low high) (decimal n) ≡ true
decimal_accepted low high n small from most =
    let same = no_plus (decimal n) (decimal_first n small) in
    let value = decimal_reads n small in
    Accepts-accepts false (Unsigned low high) (decimal n) (
      subst (IsNumeral 10) (sym same) (decimal_is_IsNumeral n small).0,
      omega (arith, value, small),
      omega (arith, value, from),
      omega (arith, value, most),
    )
