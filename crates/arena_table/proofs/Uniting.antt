-- The bits of several sets together.
use Rattle.std.proofs.Common.{◌≡◌, ◌≢◌, ◌<◌, ◌≤◌, ◌-◌, ◌^◌, ◌↔◌, ◌⊎◌, inl, inr, ℕ, List, Option, Some, None, IfSome}
use Rattle.std.proofs.Common.{max, sym, ◌∙◌, ap, subst, arith, bit_and, bit_or, w64, slice_index}
use Rattle.std.proofs.lemmas.Bool.{cases_eq}
use Rattle.std.proofs.lemmas.Nat.Bits.{bit_at-lt, bit_at-zero, bit_at_or, bit_at-trailing_zeros}
use Rattle.std.specs.Int.{bit_at, trailing_zeros}
use Rattle.gz_names.specs.Zones.{HasZone}
use Rattle.arena_table.specs.Sets.{IsBefore}
use Rattle.arena_table.specs.Indexed.{HasBit, words_at}
use Rattle.arena_table.proofs.WordBits.{if_same, if_other}
use Rattle.arena_table.proofs.LowestBit.{bit_at-rest}

-- some of the zones are united in a word, and these are left
pub record IsUniting (sets : List (List ℕ)) (zones at left word : ℕ) : Type 0 where
  pub sound : (k : ℕ) → k < 64 → bit_at word k ≡ 1 → (z : ℕ) × HasZone zones z × HasBit (words_at sets z) at k
  pub within : (z : ℕ) → HasZone left z → HasZone zones z
  pub complete : (k z : ℕ) → k < 64 → HasZone zones z → HasBit (words_at sets z) at k
      → HasZone left z ⊎ (bit_at word k ≡ 1)

pub IsUniting-none : (sets : List (List ℕ)) (zones at : ℕ) → IsUniting sets zones at zones 0
IsUniting-none sets zones at = record {
  sound = λ k lt one. absurd (let none : bit_at 0 k ≡ 0 = bit_at-zero k in omega arith);
  within = λ z h. h;
  complete = λ k z lt h bit. inl h;
}

pub HasZone-rest : (left z : ℕ) → 0 < left → left < 2 ^ 64 → HasZone left z → z ≢ trailing_zeros w64 left
    → HasZone (bit_and left (left - 1)) z
unfolding HasZone
HasZone-rest left z some fits h n =
    (h.0, bit_at-rest left z some fits ∙ (if_other z (trailing_zeros w64 left) 0 (bit_at left z) n ∙ h.1))

pub HasZone-of_rest : (left z : ℕ) → 0 < left → left < 2 ^ 64 → HasZone (bit_and left (left - 1)) z → HasZone left z
unfolding HasZone
HasZone-of_rest left z some fits h = elim (cases_eq z (trailing_zeros w64 left)) [
  | inl e ↦ absurd (let none = bit_at-rest left z some fits ∙ if_same z (trailing_zeros w64 left) 0 (bit_at left z) e in
      let one : bit_at (bit_and left (left - 1)) z ≡ 1 = h.1 in omega arith)
  | inr n ↦ (
    h.0,
    sym (if_other z (trailing_zeros w64 left) 0 (bit_at left z) n)
        ∙ (sym (bit_at-rest left z some fits) ∙ h.1),
  )
]

pub HasZone-lowest : (left : ℕ) → 0 < left → left < 2 ^ 64 → HasZone left (trailing_zeros w64 left)
unfolding HasZone
HasZone-lowest left some fits = (let t = bit_at-trailing_zeros w64 left some fits in (t.0, t.1))

-- the lowest zone is united
pub IsUniting-more : (sets : List (List ℕ)) (zones at left word more : ℕ) → IsUniting sets zones at left word → 0 < left
    → left < 2 ^ 64 → ((k : ℕ) → k < 64 → bit_at more k ≡ 1 → HasBit (words_at sets (trailing_zeros w64 left)) at k)
    → ((k : ℕ) → k < 64 → HasBit (words_at sets (trailing_zeros w64 left)) at k → bit_at more k ≡ 1)
    → IsUniting sets zones at (bit_and left (left - 1)) (bit_or word more)
IsUniting-more sets zones at left word more h some fits there back = record {
  sound = λ k lt one. (let both : bit_at (bit_or word more) k ≡ max (bit_at word k) (bit_at more k) =
      bit_at_or word more k in
      let p = bit_at-lt word k in
      let q = bit_at-lt more k in
      elim (cases_eq (bit_at word k) 1) [
        | inl e ↦ h.sound k lt e
        | inr n ↦ (let new : bit_at more k ≡ 1 = omega arith in
            (trailing_zeros w64 left, h.within _ (HasZone-lowest left some fits), there k lt new))
      ]);
  within = λ z k. h.within z (HasZone-of_rest left z some fits k);
  complete = λ k z lt zone bit. (let both : bit_at (bit_or word more) k ≡ max (bit_at word k) (bit_at more k) =
      bit_at_or word more k in
      let p = bit_at-lt word k in
      let q = bit_at-lt more k in
      elim (h.complete k z lt zone bit) [
        | inl l ↦ (elim (cases_eq z (trailing_zeros w64 left)) [
          | inl e ↦ inr (let new = back k lt (subst (λ (y : ℕ). HasBit (words_at sets y) at k) e bit) in omega arith)
          | inr n ↦ inl (HasZone-rest left z some fits l n)
        ])
        | inr one ↦ inr (omega arith)
      ]);
}

-- when none is left, all are united
pub united-all : (sets : List (List ℕ)) (zones at left word : ℕ) → IsUniting sets zones at left word → left ≡ 0
    → (k : ℕ) → k < 64 → (bit_at word k ≡ 1) ↔ ((z : ℕ) × HasZone zones z × HasBit (words_at sets z) at k)
unfolding HasZone
united-all sets zones at left word h none k lt = (
  h.sound k lt,
  λ s. (elim (h.complete k s.0 lt s.1 s.2) [
    | inl l ↦ absurd (let one : bit_at left s.0 ≡ 1 = l.1 in let zero_bit : bit_at left s.0 ≡ 0 =
        ap (λ w. bit_at w s.0) none ∙ bit_at-zero s.0 in omega arith)
    | inr one ↦ one
  ]),
)

-- the lowest word from one on is found that is not 0 in some of the zones, and these are left
pub record IsSeeking (sets : List (List ℕ)) (zones from left : ℕ) (found : Option ℕ) : Type 0 where
  pub on : IfSome found (λ at. (from ≤ at) × (at < 2 ^ 26))
  pub some : IfSome found (λ at. (z : ℕ) × HasZone zones z × (slice_index (words_at sets z) at ≢ 0))
  pub within : (z : ℕ) → HasZone left z → HasZone zones z
  pub lowest : (z word : ℕ) → HasZone zones z → from ≤ word → IsBefore found word
      → HasZone left z ⊎ (slice_index (words_at sets z) word ≡ 0)

pub IsSeeking-none : (sets : List (List ℕ)) (zones from : ℕ) → IsSeeking sets zones from zones None
IsSeeking-none sets zones from = record {
  on = tt;
  some = tt;
  within = λ z h. h;
  lowest = λ z word has ge before. inl has;
}

-- the lowest zone is looked at
pub IsSeeking-more : (sets : List (List ℕ)) (zones from left : ℕ) (found next lower : Option ℕ)
    → IsSeeking sets zones from left found → 0 < left → left < 2 ^ 64 → IfSome next (λ at. (from ≤ at) × (at < 2 ^ 26))
    → IfSome next (λ at. slice_index (words_at sets (trailing_zeros w64 left)) at ≢ 0)
    → ((word : ℕ) → from ≤ word → IsBefore next word → slice_index (words_at sets (trailing_zeros w64 left)) word ≡ 0)
    → (lower ≡ found) ⊎ (lower ≡ next) → ((n : ℕ) → IsBefore lower n → IsBefore found n × IsBefore next n)
    → IsSeeking sets zones from (bit_and left (left - 1)) lower
IsSeeking-more sets zones from left found next lower h some fits on there empty one low = record {
  on = elim one [
    | inl e ↦ subst (λ (o : Option ℕ). IfSome o (λ at. (from ≤ at) × (at < 2 ^ 26))) (sym e) h.on
    | inr e ↦ subst (λ (o : Option ℕ). IfSome o (λ at. (from ≤ at) × (at < 2 ^ 26))) (sym e) on
  ];
  some = elim one [
    | inl e ↦ subst (λ (o : Option ℕ).
        IfSome o (λ at. (z : ℕ) × HasZone zones z × (slice_index (words_at sets z) at ≢ 0))) (sym e) h.some
    | inr e ↦ subst (λ (o : Option ℕ).
        IfSome o (λ at. (z : ℕ) × HasZone zones z × (slice_index (words_at sets z) at ≢ 0))) (sym e)
        (in-zone next there)
  ];
  within = λ z k. h.within z (HasZone-of_rest left z some fits k);
  lowest = λ z word has ge before. (let both = low word before in elim (h.lowest z word has ge both.0) [
    | inl l ↦ (elim (cases_eq z (trailing_zeros w64 left)) [
      | inl e ↦ inr (ap (λ y. slice_index (words_at sets y) word) e ∙ empty word ge both.1)
      | inr n ↦ inl (HasZone-rest left z some fits l n)
    ])
    | inr none ↦ inr none
  ]);
}
  where
    in-zone : (o : Option ℕ) → IfSome o (λ at. slice_index (words_at sets (trailing_zeros w64 left)) at ≢ 0)
        → IfSome o (λ at. (z : ℕ) × HasZone zones z × (slice_index (words_at sets z) at ≢ 0))
    in-zone None t = tt
    in-zone (Some at) t = (trailing_zeros w64 left, h.within _ (HasZone-lowest left some fits), t)

-- when none is left, all are looked at
pub sought-all : (sets : List (List ℕ)) (zones from left : ℕ) (found : Option ℕ) → IsSeeking sets zones from left found
    → left ≡ 0 → (z word : ℕ) → HasZone zones z → from ≤ word → IsBefore found word
    → slice_index (words_at sets z) word ≡ 0
unfolding HasZone
sought-all sets zones from left found h none z word has ge before = elim (h.lowest z word has ge before) [
  | inl l ↦ absurd (let one : bit_at left z ≡ 1 = l.1 in let zero_bit : bit_at left z ≡ 0 = ap (λ w. bit_at w z) none
      ∙ bit_at-zero z in omega arith)
  | inr e ↦ e
]
