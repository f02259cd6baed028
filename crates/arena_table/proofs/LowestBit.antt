-- A word without its lowest bit.
use Rattle.std.proofs.Common.{◌≡◌, ◌<◌, ◌+◌, ◌*◌, ◌/◌, ◌%◌, ◌^◌, ◌-◌, ◌==◌, inl, inr, ℕ, zero, suc, min, if◌then◌else◌}
use Rattle.std.proofs.Common.{sym, ◌∙◌, ap, arith, bit_and, w64, pow-suc}
use Rattle.std.proofs.Math.Nat.{mul-div_cancel}
use Rattle.std.proofs.lemmas.Nat.{pow_pos}
use Rattle.std.proofs.lemmas.Bool.{cases_eq, cases_lt}
use Rattle.std.proofs.lemmas.Bool.Decides.{nat_tests}
use Rattle.std.proofs.lemmas.Nat.Bits.{bit_at_lowest, bit_at-suc, bit_at-lt, bit_at_and, bit_at_cat_low}
use Rattle.std.proofs.lemmas.Nat.Bits.{bit_at_cat_high, bit_at_ones_above, bit_at-trailing_zeros}
use Rattle.std.specs.Int.{bit_at, trailing_zeros}

doubled : (n q p : ℕ) → n / 2 ≡ q * p → n % 2 ≡ 0 → n ≡ q * (p * 2)
doubled n q p e even = omega arith

-- a number whose t lowest bits are 0 is a multiple of 2 ^ t
multiple : (t n : ℕ) → ((i : ℕ) → i < t → bit_at n i ≡ 0) → (q : ℕ) × (n ≡ q * 2 ^ t)
multiple zero n low = (n, omega arith)
multiple (suc t) n low = by (multiple t (n / 2) (λ i lt. sym (bit_at-suc n i) ∙ low (suc i) (omega arith)))
  where
    by : (q : ℕ) × (n / 2 ≡ q * 2 ^ t) → (q : ℕ) × (n ≡ q * 2 ^ suc t)
    by (q, e) = (q, rw (pow-suc 2 t) (doubled n q (2 ^ t) e (sym (bit_at_lowest n) ∙ low 0 (omega arith))))

-- and where the next bit is 1, it is that bit and a multiple of what is above it
pub split : (t n : ℕ) → ((i : ℕ) → i < t → bit_at n i ≡ 0) → bit_at n t ≡ 1 → (m : ℕ) × (n ≡ m * 2 ^ suc t + 2 ^ t)
split t n low one = by (multiple t n low)
  where
    odd : (q p m : ℕ) → n ≡ q * p → q ≡ 2 * m + 1 → n ≡ m * (p * 2) + p
    odd q p m e f = rw f at e ∙ omega arith

    by : (q : ℕ) × (n ≡ q * 2 ^ t) → (m : ℕ) × (n ≡ m * 2 ^ suc t + 2 ^ t)
    by (q, e) =
        let over : n / 2 ^ t ≡ q = ap (λ x. x / 2 ^ t) e ∙ mul-div_cancel q (pow_pos t) in
        let top : q % 2 ≡ 1 = ap (λ x. x % 2) (sym over) ∙ one in
        (q / 2, rw (pow-suc 2 t) (odd q (2 ^ t) (q / 2) e (omega arith)))

-- `n & (n - 1)` is n without its lowest bit
pub bit_at-rest : (n k : ℕ) → 0 < n → n < 2 ^ 64
    → bit_at (bit_and n (n - 1)) k ≡ (if k == trailing_zeros w64 n then 0 else bit_at n k)
bit_at-rest n k some fits =
    let t = trailing_zeros w64 n in
    let lowest = bit_at-trailing_zeros w64 n some fits in
    by (split t n lowest.2 lowest.1)
  where
    by : (m : ℕ) × (n ≡ m * 2 ^ suc (trailing_zeros w64 n) + 2 ^ trailing_zeros w64 n)
        → bit_at (bit_and n (n - 1)) k ≡ (if k == trailing_zeros w64 n then 0 else bit_at n k)
    by (m, e) =
        let t = trailing_zeros w64 n in
        let p : ℕ = 2 ^ t in
        let lowest = bit_at-trailing_zeros w64 n some fits in
        let pos : 0 < 2 ^ t = pow_pos t in
        let twice : 2 ^ suc t ≡ 2 ^ t * 2 = pow-suc 2 t in
        let less : n - 1 ≡ m * 2 ^ suc t + (2 ^ t - 1) = omega arith in
        let both : bit_at (bit_and n (n - 1)) k ≡ min (bit_at n k) (bit_at (n - 1) k) = bit_at_and n (n - 1) k in
        let x = bit_at-lt n k in
        elim (cases_lt k t) [
          | inl lt ↦ (let zero_there : bit_at n k ≡ 0 = lowest.2 k lt in grind (arith, nat_tests))
          | inr le ↦ (elim (cases_eq k t) [
            | inl f ↦ (let cleared : bit_at (n - 1) k ≡ 0 = ap (λ v. bit_at v k) less
                ∙ (ap (bit_at (m * 2 ^ suc t + (2 ^ t - 1))) f
                ∙ (bit_at_cat_low m (suc t) (2 ^ t - 1) t (omega arith) ∙ bit_at_ones_above t t (omega arith))) in
                grind (arith, nat_tests))
            | inr f ↦ (let one = bit_at_cat_high m (suc t) (2 ^ t) k (omega arith) (omega arith) in
                let other = bit_at_cat_high m (suc t) (2 ^ t - 1) k (omega arith) (omega arith) in
                let same : bit_at (n - 1) k ≡ bit_at n k = ap (λ v. bit_at v k) less
                ∙ (other ∙ (sym one ∙ ap (λ v. bit_at v k) (sym e))) in
                grind (arith, nat_tests))
          ])
        ]
