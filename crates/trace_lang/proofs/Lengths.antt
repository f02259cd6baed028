-- How many digits a number has in decimal.
use Rattle.std.proofs.Common.{◌≡◌, ℕ, ◌+◌, ◌/◌, ◌^◌, ◌<◌, ◌≤◌, ◌++◌, List, length, take, drop, ap, arith, subst, ◌∙◌}
use Rattle.std.specs.Fmt.{decimal}
use Rattle.std.proofs.Math.Seq.{take-add, take-append_seam}
use Rattle.std.proofs.lemmas.Fmt.{decimal_digit}
use Rattle.itoa.proofs.Decimal.{length_step_wide}

-- one more than its tenth
pub length_more : (k n : ℕ) → 10 ≤ n → n < 2 ^ 64 → length (decimal (n / 10)) ≡ k → length (decimal n) ≡ k + 1
length_more k n ge lt h = length_step_wide n ge (omega (arith, lt)) ∙ ap (λ m. m + 1) h

pub one_long : (n : ℕ) → n < 10 → length (decimal n) ≡ 1
one_long n h = ap length (decimal_digit n h)

pub two_long : (n : ℕ) → 10 ≤ n → n < 100 → length (decimal n) ≡ 2
two_long n ge lt = length_more 1 n ge (omega (arith, lt)) (one_long (n / 10) (omega (arith, lt)))

pub three_long : (n : ℕ) → 100 ≤ n → n < 1000 → length (decimal n) ≡ 3
three_long n ge lt = length_more 2 n (omega (arith, ge)) (omega (arith, lt)) (two_long (n / 10) (omega (arith, ge))
    (omega (arith, lt)))

pub four_long : (n : ℕ) → 1000 ≤ n → n < 10000 → length (decimal n) ≡ 4
four_long n ge lt = length_more 3 n (omega (arith, ge)) (omega (arith, lt)) (three_long (n / 10) (omega (arith, ge))
    (omega (arith, lt)))

pub five_long : (n : ℕ) → 10000 ≤ n → n < 100000 → length (decimal n) ≡ 5
five_long n ge lt = length_more 4 n (omega (arith, ge)) (omega (arith, lt)) (four_long (n / 10) (omega (arith, ge))
    (omega (arith, lt)))

-- what is written behind the front of a buffer
pub written_on : (old new ds : List ℕ) (at k start : ℕ) → start ≡ at → k ≡ length ds
    → drop start new ≡ ds ++ drop (at + k) old → take start new ≡ take start old
    → take (at + k) new ≡ take at old ++ ds
written_on old new ds at k start s e w b =
    let front : take at new ≡ take at old = subst (λ i. take i new ≡ take i old) s b in
    let rest : drop at new ≡ ds ++ drop (at + k) old = subst (λ i. drop i new ≡ ds ++ drop (at + k) old) s w in
    take-add at k new ∙ ap (λ t. t ++ take k (drop at new)) front ∙ ap (λ t. take at old ++ take k t) rest
    ∙ ap (λ t. take at old ++ t)
    (ap (λ j. take j (ds ++ drop (at + k) old)) e ∙ take-append_seam ds (drop (at + k) old))
