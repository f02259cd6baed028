-- The elements of a list at which a word has a bit.
use Rattle.std.proofs.Common.{◌≡◌, ◌<◌, ◌≤◌, ◌/◌, ◌%◌, ◌^◌, ◌-◌, ◌==◌, ℕ, zero, suc, Bool, true, false, cond}
use Rattle.std.proofs.Common.{if◌then◌else◌, List, [], ◌∷◌, length, get_or, refl, sym, ◌∙◌, ap, arith, bit_and, w64}
use Rattle.std.proofs.lemmas.Nat.Bits.{bit_at_lowest, bit_at-suc, bit_at-trailing_zeros}
use Rattle.std.specs.Int.{bit_at, trailing_zeros}
use Rattle.arena_table.specs.Slots.{at_bits}
use Rattle.arena_table.proofs.WordBits.{if_same, if_other}
use Rattle.arena_table.proofs.LowestBit.{bit_at-rest}

pub at_bits-zero : {X : Type 0} (xs : List X) → at_bits 0 xs ≡ []
at_bits-zero [] = refl
at_bits-zero (x ∷ xs) = at_bits-zero xs

pub length-at_bits : {X : Type 0} (w : ℕ) (xs : List X) → length (at_bits w xs) ≤ length xs
length-at_bits w [] = omega arith
length-at_bits w (x ∷ xs) = by (w % 2 == 1) (length-at_bits (w / 2) xs)
  where
    by : (b : Bool) → length (at_bits (w / 2) xs) ≤ length xs
        → length (cond b (x ∷ at_bits (w / 2) xs) (at_bits (w / 2) xs)) ≤ suc (length xs)
    by true h = omega arith
    by false h = omega arith

-- two words with the same bits pick the same elements
pub at_bits-same : {X : Type 0} (v w : ℕ) (xs : List X) → ((k : ℕ) → k < length xs → bit_at v k ≡ bit_at w k)
    → at_bits v xs ≡ at_bits w xs
at_bits-same v w [] bits = refl
at_bits-same v w (x ∷ xs) bits =
    let rest = at_bits-same (v / 2) (w / 2) xs
    (λ k lt. sym (bit_at-suc v k) ∙ (bits (suc k) (omega arith) ∙ bit_at-suc w k)) in
    let here : v % 2 ≡ w % 2 = sym (bit_at_lowest v) ∙ (bits 0 (omega arith) ∙ bit_at_lowest w) in
    ap (λ n. if n == 1 then x ∷ at_bits (v / 2) xs else at_bits (v / 2) xs) here
    ∙ ap (λ ys. if w % 2 == 1 then x ∷ ys else ys) rest

-- the first element picked is the one at the lowest bit, and the others are those of the rest
pub at_bits-first : {X : Type 0} (v w t : ℕ) (xs : List X) (d : X) → t < length xs → bit_at w t ≡ 1 → bit_at v t ≡ 0
    → ((i : ℕ) → i < t → (bit_at w i ≡ 0) × (bit_at v i ≡ 0))
    → ((i : ℕ) → t < i → i < length xs → bit_at v i ≡ bit_at w i) → at_bits w xs ≡ get_or xs t d ∷ at_bits v xs
at_bits-first v w t [] d h one none below above = absurd (omega arith)
at_bits-first v w zero (x ∷ xs) d h one none below above =
    let here : w % 2 ≡ 1 = sym (bit_at_lowest w) ∙ one in
    let gone : v % 2 ≡ 0 = sym (bit_at_lowest v) ∙ none in
    let rest = at_bits-same (v / 2) (w / 2) xs
    (λ k lt. sym (bit_at-suc v k) ∙ (above (suc k) (omega arith) (omega arith) ∙ bit_at-suc w k)) in
    ap (λ n. if n == 1 then x ∷ at_bits (w / 2) xs else at_bits (w / 2) xs) here
    ∙ (ap (λ ys. x ∷ ys) (sym rest) ∙ ap (λ n. x ∷ (if n == 1 then x ∷ at_bits (v / 2) xs else at_bits (v / 2) xs))
    (sym gone))
at_bits-first v w (suc t) (x ∷ xs) d h one none below above =
    let here : w % 2 ≡ 0 = sym (bit_at_lowest w) ∙ (below 0 (omega arith)).0 in
    let gone : v % 2 ≡ 0 = sym (bit_at_lowest v) ∙ (below 0 (omega arith)).1 in
    let rest = at_bits-first (v / 2) (w / 2) t xs d (omega arith) (sym (bit_at-suc w t) ∙ one)
    (sym (bit_at-suc v t) ∙ none)
    (λ i lt. (
      sym (bit_at-suc w i) ∙ (below (suc i) (omega arith)).0,
      sym (bit_at-suc v i)
          ∙ (below (suc i) (omega arith)).1,
    ))
    (λ i lt less. sym (bit_at-suc v i) ∙ (above (suc i) (omega arith) (omega arith) ∙ bit_at-suc w i)) in
    ap (λ n. if n == 1 then x ∷ at_bits (w / 2) xs else at_bits (w / 2) xs) here
    ∙ (rest ∙ ap (λ n. get_or xs t d ∷ (if n == 1 then x ∷ at_bits (v / 2) xs else at_bits (v / 2) xs)) (sym gone))

-- by the lowest bit of a word that is not 0
pub at_bits-lowest : {X : Type 0} (w : ℕ) (xs : List X) (d : X) → 0 < w → w < 2 ^ 64 → trailing_zeros w64 w < length xs
    → at_bits w xs ≡ get_or xs (trailing_zeros w64 w) d ∷ at_bits (bit_and w (w - 1)) xs
at_bits-lowest w xs d some fits within =
    let t = trailing_zeros w64 w in
    let lowest = bit_at-trailing_zeros w64 w some fits in
    let v = bit_and w (w - 1) in
    at_bits-first v w t xs d within lowest.1 (bit_at-rest w t some fits ∙ if_same t t 0 (bit_at w t) refl)
    (λ i lt. (
      lowest.2 i lt,
      bit_at-rest w i some fits
          ∙ (if_other i t 0 (bit_at w i) (omega arith) ∙ lowest.2 i lt),
    ))
    (λ i lt less. bit_at-rest w i some fits ∙ if_other i t 0 (bit_at w i) (omega arith))
