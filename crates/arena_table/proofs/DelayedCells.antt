-- The places at the bits of the masks of arenas.
use Rattle.std.proofs.Common.{◌≡◌, ◌≢◌, ◌<◌, ◌≤◌, ◌+◌, ◌*◌, ◌/◌, ◌%◌, ◌==◌, ◌^◌, ◌-◌, ℕ, zero, suc, Bool, true, false}
use Rattle.std.proofs.Common.{cond}
use Rattle.std.proofs.Common.{if◌then◌else◌, List, [], ◌∷◌, ◌++◌, length, get_or, set, Contains, refl, sym, ◌∙◌, ap}
use Rattle.std.proofs.Common.{subst, arith, inl, inr, length-append, bit_and, w64}
use Rattle.std.specs.List.Sorted.{IsPermutation}
use Rattle.std.specs.Int.{bit_at, trailing_zeros}
use Rattle.std.proofs.lemmas.List.Elements.{Contains-append_left, Contains-append_right}
use Rattle.std.proofs.lemmas.List.FromFn.{length-map-range_with_len, get_or-map-range_with_len}
use Rattle.std.proofs.lemmas.List.Sorted.{IsPermutation-refl, IsPermutation-sym, IsPermutation-trans}
use Rattle.std.proofs.lemmas.List.Sorted.{IsPermutation-cons}
use Rattle.std.proofs.lemmas.List.Sorted.{IsPermutation-middle, IsPermutation-append_left, IsPermutation-append_right}
use Rattle.std.proofs.lemmas.Bool.{cases_eq}
use Rattle.std.proofs.lemmas.Nat.Bits.{bit_at_lowest, bit_at-lt, bit_at-suc, bit_at-trailing_zeros}
use Rattle.gz_names.specs.declared.numbers.Place.{Place}
use Rattle.arena_table.specs.Slots.{at_bits}
use Rattle.arena_table.specs.Delayed.{places_from, places_of}
use Rattle.arena_table.proofs.AtBits.{at_bits-zero, at_bits-same, at_bits-lowest, length-at_bits}

same_lists : {X : Type 0} {xs ys : List X} → xs ≡ ys → IsPermutation xs ys
same_lists {X} {xs} e = subst (IsPermutation xs) e (IsPermutation-refl xs)

swap_first : {X : Type 0} (x y : X) (xs : List X) → IsPermutation (y ∷ x ∷ xs) (x ∷ y ∷ xs)
swap_first x y xs = IsPermutation-sym (x ∷ y ∷ xs) (y ∷ x ∷ xs) (IsPermutation-middle (x ∷ []) y xs)

-- with one bit more a word picks one element more
pub at_bits-more : {X : Type 0} (w v t : ℕ) (xs : List X) (d : X) → t < length xs → bit_at w t ≡ 0 → bit_at v t ≡ 1
    → ((k : ℕ) → k < length xs → k ≢ t → bit_at v k ≡ bit_at w k)
    → IsPermutation (get_or xs t d ∷ at_bits w xs) (at_bits v xs)
at_bits-more w v t [] d lt none one others = absurd (omega arith)
at_bits-more w v zero (x ∷ xs) d lt none one others =
    let here : v % 2 ≡ 1 = sym (bit_at_lowest v) ∙ one in
    let gone : w % 2 ≡ 0 = sym (bit_at_lowest w) ∙ none in
    let rest = at_bits-same (v / 2) (w / 2) xs
    (λ k less. sym (bit_at-suc v k) ∙ (others (suc k) (omega arith) (λ e. omega arith) ∙ bit_at-suc w k)) in
    let before = ap (λ n. if n == 1 then x ∷ at_bits (w / 2) xs else at_bits (w / 2) xs) gone in
    let after = ap (λ n. if n == 1 then x ∷ at_bits (v / 2) xs else at_bits (v / 2) xs) here in
    same_lists (ap (λ ys. x ∷ ys) before ∙ (ap (λ ys. x ∷ ys) (sym rest) ∙ sym after))
at_bits-more w v (suc t) (x ∷ xs) d lt none one others =
    let low : v % 2 ≡ w % 2 =
    sym (bit_at_lowest v) ∙ (others 0 (omega arith) (λ e. omega arith) ∙ bit_at_lowest w) in
    let rest = at_bits-more (w / 2) (v / 2) t xs d (omega arith) (sym (bit_at-suc w t) ∙ none)
    (sym (bit_at-suc v t) ∙ one)
    (λ k less ne. sym (bit_at-suc v k) ∙ (others (suc k) (omega arith) (λ e. ne (omega arith)) ∙ bit_at-suc w k)) in
    let after = ap (λ n. if n == 1 then x ∷ at_bits (v / 2) xs else at_bits (v / 2) xs) low in
    subst (IsPermutation (get_or xs t d ∷ at_bits w (x ∷ xs))) (sym after) (by (w % 2 == 1) rest)
  where
    by : (b : Bool) → IsPermutation (get_or xs t d ∷ at_bits (w / 2) xs) (at_bits (v / 2) xs)
        → IsPermutation (get_or xs t d ∷ cond b (x ∷ at_bits (w / 2) xs) (at_bits (w / 2) xs))
        (cond b (x ∷ at_bits (v / 2) xs) (at_bits (v / 2) xs))
    by true h = IsPermutation-trans (get_or xs t d ∷ x ∷ at_bits (w / 2) xs) (x ∷ get_or xs t d ∷ at_bits (w / 2) xs)
        (x ∷ at_bits (v / 2) xs) (swap_first x (get_or xs t d) (at_bits (w / 2) xs))
        (IsPermutation-cons x (get_or xs t d ∷ at_bits (w / 2) xs) (at_bits (v / 2) xs) h)
    by false h = h

-- an element at a bit is picked
pub at_bits-contains : {X : Type 0} (w t : ℕ) (xs : List X) (d : X) → t < length xs → bit_at w t ≡ 1
    → Contains (at_bits w xs) (get_or xs t d)
at_bits-contains w t [] d lt one = absurd (omega arith)
at_bits-contains w zero (x ∷ xs) d lt one =
    let here : w % 2 ≡ 1 = sym (bit_at_lowest w) ∙ one in
    subst (λ n. Contains (if n == 1 then x ∷ at_bits (w / 2) xs else at_bits (w / 2) xs) x) (sym here)
    (0, omega arith, refl)
at_bits-contains w (suc t) (x ∷ xs) d lt one = by (w % 2 == 1)
    (at_bits-contains (w / 2) t xs d (omega arith) (sym (bit_at-suc w t) ∙ one))
  where
    by : (b : Bool) → Contains (at_bits (w / 2) xs) (get_or xs t d)
        → Contains (cond b (x ∷ at_bits (w / 2) xs) (at_bits (w / 2) xs)) (get_or xs t d)
    by true h = Contains-append_right (x ∷ []) (at_bits (w / 2) xs) (get_or xs t d) h
    by false h = h

-- an arena has 64 places, one a slot
length-places : (arena : ℕ) → length (places_of arena) ≡ 64
length-places arena = length-map-range_with_len {X = Place} (λ (slot : ℕ). (arena, slot)) 0 64

place-at : (arena slot : ℕ) (d : Place) → slot < 64 → get_or (places_of arena) slot d ≡ (arena, slot)
place-at arena slot d below =
    get_or-map-range_with_len {X = Place} (λ (s : ℕ). (arena, s)) 0 64 slot slot d below (omega arith)

-- masks of which one has a place more
places_from-more : (n a j : ℕ) (y : Place) (masks : List ℕ) (v : ℕ) → n + a ≡ j → a < length masks
    → IsPermutation (y ∷ at_bits (get_or masks a 0) (places_of j)) (at_bits v (places_of j))
    → IsPermutation (y ∷ places_from n masks) (places_from n (set masks a v))
places_from-more n a j y [] v e lt h = absurd (omega arith)
places_from-more n zero j y (mask ∷ masks) v e lt h =
    let same : j ≡ n = omega arith in
    IsPermutation-append_left (places_from (suc n) masks) (y ∷ at_bits mask (places_of n)) (at_bits v (places_of n))
    (subst (λ m. IsPermutation (y ∷ at_bits mask (places_of m)) (at_bits v (places_of m))) same h)
places_from-more n (suc a) j y (mask ∷ masks) v e lt h =
    let here = at_bits mask (places_of n) in
    let rest = places_from (suc n) masks in
    let more = places_from (suc n) (set masks a v) in
    IsPermutation-trans (y ∷ (here ++ rest)) (here ++ y ∷ rest) (here ++ more)
    (IsPermutation-sym (here ++ y ∷ rest) (y ∷ (here ++ rest)) (IsPermutation-middle here y rest))
    (IsPermutation-append_right here (y ∷ rest) more
    (places_from-more (suc n) a j y masks v (omega arith) (omega arith) h))

-- masks of which the first that is not 0 has its lowest place less
places_from-less : (n a j : ℕ) (y : Place) (masks : List ℕ) (v : ℕ) → n + a ≡ j → a < length masks
    → ((k : ℕ) → k < a → get_or masks k 0 ≡ 0)
    → at_bits (get_or masks a 0) (places_of j) ≡ y ∷ at_bits v (places_of j)
    → places_from n masks ≡ y ∷ places_from n (set masks a v)
places_from-less n a j y [] v e lt before h = absurd (omega arith)
places_from-less n zero j y (mask ∷ masks) v e lt before h =
    let same : j ≡ n = omega arith in
    ap (λ ys. ys ++ places_from (suc n) masks)
    (subst (λ m. at_bits mask (places_of m) ≡ y ∷ at_bits v (places_of m)) same h)
places_from-less n (suc a) j y (mask ∷ masks) v e lt before h =
    let none : at_bits mask (places_of n) ≡ [] =
    ap (λ m. at_bits m (places_of n)) (before 0 (omega arith)) ∙ at_bits-zero (places_of n) in
    let rest = places_from-less (suc n) a j y masks v (omega arith) (omega arith)
    (λ k less. before (suc k) (omega arith)) h in
    ap (λ ys. ys ++ places_from (suc n) masks) none
    ∙ (rest ∙ ap (λ ys. y ∷ (ys ++ places_from (suc n) (set masks a v))) (sym none))

-- masks that are all 0 have no places
pub places_from-none : (n : ℕ) (masks : List ℕ) → ((k : ℕ) → get_or masks k 0 ≡ 0) → places_from n masks ≡ []
places_from-none n [] h = refl
places_from-none n (mask ∷ masks) h =
    ap (λ m. at_bits m (places_of n) ++ places_from (suc n) masks) (h 0)
    ∙ (ap (λ ys. ys ++ places_from (suc n) masks) (at_bits-zero (places_of n))
    ∙ places_from-none (suc n) masks (λ k. h (suc k)))

-- nor has one that is put at the end
pub places_from-push_zero : (n : ℕ) (masks : List ℕ) → places_from n (masks ++ 0 ∷ []) ≡ places_from n masks
places_from-push_zero n [] = ap (λ ys. ys ++ []) (at_bits-zero (places_of n))
places_from-push_zero n (mask ∷ masks) = ap (λ ys. at_bits mask (places_of n) ++ ys)
    (places_from-push_zero (suc n) masks)

-- there are at most this number of places
pub length-places_from : (n : ℕ) (masks : List ℕ) → length (places_from n masks) ≤ 64 * length masks
length-places_from n [] = omega arith
length-places_from n (mask ∷ masks) =
    let here = length-at_bits mask (places_of n) in
    let all = length-places n in
    let rest = length-places_from (suc n) masks in
    let both = length-append (at_bits mask (places_of n)) (places_from (suc n) masks) in
    omega arith

places_from-contains : (n a j t : ℕ) (masks : List ℕ) → n + a ≡ j → a < length masks → t < 64
    → bit_at (get_or masks a 0) t ≡ 1 → Contains (places_from n masks) (j, t)
places_from-contains n a j t [] e lt below one = absurd (omega arith)
places_from-contains n zero j t (mask ∷ masks) e lt below one =
    let same : j ≡ n = omega arith in
    let all = length-places n in
    let at = place-at n t (n, 0) below in
    subst (λ m. Contains (places_from n (mask ∷ masks)) (m, t)) (sym same)
    (Contains-append_left (at_bits mask (places_of n)) (places_from (suc n) masks) (n, t)
    (subst (Contains (at_bits mask (places_of n))) at (at_bits-contains mask t (places_of n) (n, 0) (omega arith) one)))
places_from-contains n (suc a) j t (mask ∷ masks) e lt below one =
    Contains-append_right (at_bits mask (places_of n)) (places_from (suc n) masks) (j, t)
    (places_from-contains (suc n) a j t masks (omega arith) (omega arith) below one)

-- the bit of a place that is not there is set
pub places-more : (masks : List ℕ) (a t v : ℕ) → a < length masks → t < 64
    → (Contains (places_from 0 masks) (a, t) → ⊥) → bit_at v t ≡ 1
    → ((k : ℕ) → k ≢ t → bit_at v k ≡ bit_at (get_or masks a 0) k)
    → IsPermutation ((a, t) ∷ places_from 0 masks) (places_from 0 (set masks a v))
places-more masks a t v lt below fresh one others =
    let w = get_or masks a 0 in
    let two = bit_at-lt w t in
    let none : bit_at (get_or masks a 0) t ≡ 0 = elim (cases_eq (bit_at (get_or masks a 0) t) 1) [
      | inl e ↦ absurd (fresh (places_from-contains 0 a a t masks (omega arith) lt below e))
      | inr n ↦ omega (arith, two)
    ] in
    let all = length-places a in
    let at = place-at a t (a, 0) below in
    places_from-more 0 a a (a, t) masks v (omega arith) lt
    (subst (λ y. IsPermutation (y ∷ at_bits w (places_of a)) (at_bits v (places_of a))) at
    (at_bits-more w v t (places_of a) (a, 0) (omega arith) none one (λ k less ne. others k ne)))

-- the lowest bit of the first mask that is not 0 is cleared
pub places-less : (masks : List ℕ) (a w : ℕ) → get_or masks a 0 ≡ w → a < length masks → 0 < w → w < 2 ^ 64
    → ((k : ℕ) → k < a → get_or masks k 0 ≡ 0)
    → places_from 0 masks ≡ (a, trailing_zeros w64 w) ∷ places_from 0 (set masks a (bit_and w (w - 1)))
places-less masks a w e lt some fits before =
    let lowest = bit_at-trailing_zeros w64 w some fits in
    let below : trailing_zeros w64 w < 64 = lowest.0 in
    let all = length-places a in
    let at = place-at a (trailing_zeros w64 w) (a, 0) below in
    places_from-less 0 a a (a, trailing_zeros w64 w) masks (bit_and w (w - 1)) (omega arith) lt before
    (ap (λ m. at_bits m (places_of a)) e
    ∙ (at_bits-lowest w (places_of a) (a, 0) some fits (omega (arith, below, all))
    ∙ ap (λ y. y ∷ at_bits (bit_and w (w - 1)) (places_of a)) at))
