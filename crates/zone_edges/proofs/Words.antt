-- How many zones a word has.
use Rattle.std.proofs.Common.{◌≡◌, ◌≢◌, ℕ, zero, suc, ◌+◌, ◌<◌, ◌≤◌, ◌⊎◌, inl, inr, subst, arith}
use Rattle.std.specs.Int.{bit_at}
use Rattle.std.proofs.lemmas.Bool.{cases_lt, cases_eq}
use Rattle.std.proofs.lemmas.Nat.Bits.{bit_at-lt}
use Rattle.gz_names.specs.Zones.{HasZone}
use Rattle.zone_edges.specs.Sets.{size}

-- what is in a set or not
pub HasZone-cases : (s z : ℕ) → HasZone s z ⊎ (HasZone s z → ⊥)
unfolding HasZone
HasZone-cases s z = elim (cases_lt z 64) [
  | inl lt ↦ elim (cases_eq (bit_at s z) 1) [ inl e ↦ inl (lt, e) | inr e ↦ inr (λ h. e h.1) ]
  | inr ge ↦ inr (λ h. (let lt : z < 64 = h.0 in omega arith))
]

-- a set has at most as many zones as there are
pub size-bound : (n s : ℕ) → size n s ≤ n
unfolding size
size-bound zero s = omega arith
size-bound (suc n) s = omega (arith, size-bound n s, bit_at-lt s n)

pub size-monotone : (n s t : ℕ) → n ≤ 64 → ((z : ℕ) → HasZone s z → HasZone t z) → size n s ≤ size n t
unfolding size HasZone
size-monotone zero s t f h = omega arith
size-monotone (suc n) s t f h = elim (cases_lt 0 (bit_at s n)) [
  | inl l ↦ let e : bit_at t n ≡ 1 = (h n (omega arith, omega (arith, bit_at-lt s n))).1 in
      omega (arith, size-monotone n s t (omega arith) h, bit_at-lt s n)
  | inr r ↦ omega (arith, size-monotone n s t (omega arith) h)
]

-- one zone more
pub size-more : (n s t k : ℕ) → n ≤ 64 → ((z : ℕ) → HasZone s z → HasZone t z) → k < n → (HasZone s k → ⊥) → HasZone t k
    → size n s + 1 ≤ size n t
unfolding size HasZone
size-more zero s t k f h lt out there = omega arith
size-more (suc n) s t k f h lt out there = elim (cases_eq k n) [
  | inl e ↦ let p : bit_at t n ≡ 1 = subst (λ j. bit_at t j ≡ 1) e there.1 in let q : bit_at s n ≢ 1 =
      subst (λ j. bit_at s j ≢ 1) e (λ one. out (omega arith, one)) in
      omega (arith, size-monotone n s t (omega arith) h, bit_at-lt s n)
  | inr e ↦ elim (cases_lt 0 (bit_at s n)) [
    | inl l ↦ let p : bit_at t n ≡ 1 = (h n (omega arith, omega (arith, bit_at-lt s n))).1 in
        omega (arith, size-more n s t k (omega arith) h (omega arith) out there, bit_at-lt s n)
    | inr r ↦ omega (arith, size-more n s t k (omega arith) h (omega arith) out there)
  ]
]

-- a set without some zone has fewer than there are
pub size-room : (n s k : ℕ) → n ≤ 64 → k < n → (HasZone s k → ⊥) → size n s < n
unfolding size HasZone
size-room zero s k f lt out = omega arith
size-room (suc n) s k f lt out = elim (cases_eq k n) [
  | inl e ↦ let q : bit_at s n ≢ 1 = subst (λ j. bit_at s j ≢ 1) e (λ one. out (omega arith, one)) in
      omega (arith, size-bound n s, bit_at-lt s n)
  | inr e ↦ omega (arith, size-room n s k (omega arith) (omega arith) out, bit_at-lt s n)
]
