-- The arenas that a walk over a set of zones has still to visit.
use Rattle.std.proofs.Common.{◌≡◌, ◌≢◌, ◌<◌, ◌≤◌, ◌+◌, ◌*◌, ◌/◌, ◌%◌, ◌-◌, ◌^◌, bit_and, w64, ◌==◌, ◌↔◌, inl, inr, ℕ}
use Rattle.std.proofs.Common.{zero, suc, Bool, true, false, cond, if◌then◌else◌, List, [], ◌∷◌, ◌++◌, All, length, drop}
use Rattle.std.proofs.Common.{slice_get, slice_index, Option, Some, None, refl, sym, ◌∙◌, ap, subst, arith, eqb-true}
use Rattle.std.proofs.Common.{eq-eqb, IsSomeAnd}
use Rattle.std.proofs.lemmas.Bool.{cases_eq}
use Rattle.std.proofs.lemmas.Bool.Decides.{nat_tests}
use Rattle.std.proofs.lemmas.Nat.Bits.{bit_at_lowest, bit_at-suc, bit_at-lt, bit_at-zero, bit_at_above}
use Rattle.std.proofs.lemmas.Nat.Bits.{bit_at-trailing_zeros}
use Rattle.std.proofs.lemmas.List.FromFn.{length-range_with_len, get_or-range_with_len}
use Rattle.std.proofs.lemmas.List.Elements.{All-tail}
use Rattle.std.specs.Int.{bit_at, trailing_zeros}
use Rattle.std.specs.List.{range_with_len}
use Rattle.gz_names.specs.Zones.{HasZone}
use Rattle.arena_table.specs.Slots.{Arena, at_bits, bit_of}
use Rattle.arena_table.specs.Indexed.{HasBit, words_at, IsOwnedBy, is_among, is_owned, in_zones, numbers_from}
use Rattle.arena_table.specs.Stored.{IsHeadOf}
use Rattle.arena_table.specs.Walks.{walk_rest}
use Rattle.arena_table.specs.declared.store.Head.{Head}
use Rattle.arena_table.specs.declared.walk.Walk.{Walk}
use Rattle.arena_table.proofs.AtBits.{at_bits-zero, at_bits-lowest}
use Rattle.arena_table.proofs.WordBits.{bit_at-shifted}

abbrev zone-below : Option Arena → Type 0
zone-below None = ⊥
zone-below (Some arena) = arena.zone ≤ 64

bit-cases : (b : Bool) (n : ℕ) → n ≡ bit_of b → (n == 1) ≡ b
bit-cases true n e = ap (λ k. k == 1) e
bit-cases false n e = ap (λ k. k == 1) e

none-numbered : (word w a m : ℕ) → ((k : ℕ) → k < m → bit_at w k ≡ 0) → at_bits w (range_with_len a m) ≡ []
none-numbered word w a zero bits = refl
none-numbered word w a (suc m) bits =
    let here : w % 2 ≡ 0 = sym (bit_at_lowest w) ∙ bits 0 (omega arith) in
    ap (λ n. if n == 1 then a ∷ at_bits (w / 2) (range_with_len (a + 1) m)
    else at_bits (w / 2) (range_with_len (a + 1) m)) here
    ∙ none-numbered word (w / 2) (a + 1) m (λ k lt. sym (bit_at-suc w k) ∙ bits (suc k) (omega arith))

-- a word of arenas, and the arenas after it
numbers_from-block : (word w a m n : ℕ) (xs : List Arena) → a + m ≡ n
    → ((k : ℕ) → k < m → bit_at w k ≡ bit_of (is_among word (slice_get xs k)))
    → at_bits w (range_with_len a m) ++ numbers_from word n (drop m xs) ≡ numbers_from word a xs
numbers_from-block word w a zero n xs e bits = ap (λ k. numbers_from word k xs) (let same : n ≡ a = omega arith in same)
numbers_from-block word w a (suc m) n [] e bits = ap (λ ys. ys ++ []) (none-numbered word w a (suc m) bits)
numbers_from-block word w a (suc m) n (x ∷ xs) e bits =
    let rest = numbers_from-block word (w / 2) (a + 1) m n xs (omega arith)
    (λ k lt. sym (bit_at-suc w k) ∙ bits (suc k) (omega arith)) in
    let here : w % 2 ≡ bit_of (in_zones word x.zone) = sym (bit_at_lowest w) ∙ bits 0 (omega arith) in
    by (in_zones word x.zone) (bit-cases (in_zones word x.zone) (w % 2) here)
    (rest ∙ ap (λ k. numbers_from word k xs) (let same : a + 1 ≡ suc a = omega arith in same))
  where
    by : (b : Bool) → (w % 2 == 1) ≡ b → at_bits (w / 2) (range_with_len (a + 1) m) ++ numbers_from word n (drop m xs)
        ≡ numbers_from word (suc a) xs
        → (if w % 2 == 1 then a ∷ at_bits (w / 2) (range_with_len (a + 1) m)
        else at_bits (w / 2) (range_with_len (a + 1) m)) ++ numbers_from word n (drop m xs)
        ≡ cond b (a ∷ numbers_from word (suc a) xs) (numbers_from word (suc a) xs)
    by true f r = ap (λ c. cond c (a ∷ at_bits (w / 2) (range_with_len (a + 1) m))
        (at_bits (w / 2) (range_with_len (a + 1) m)) ++ numbers_from word n (drop m xs)) f ∙ ap (λ ys. a ∷ ys) r
    by false f r = ap (λ c. cond c (a ∷ at_bits (w / 2) (range_with_len (a + 1) m))
        (at_bits (w / 2) (range_with_len (a + 1) m)) ++ numbers_from word n (drop m xs)) f ∙ r

-- bits past those of a word list nothing
at_bits-fewer : (w a n m : ℕ) → m ≤ n → ((k : ℕ) → m ≤ k → bit_at w k ≡ 0)
    → at_bits w (range_with_len a n) ≡ at_bits w (range_with_len a m)
at_bits-fewer w a n zero le bits = none-numbered w w a n (λ k lt. bits k (omega arith))
at_bits-fewer w a zero (suc m) le bits = absurd (omega arith)
at_bits-fewer w a (suc n) (suc m) le bits =
    ap (λ ys. if w % 2 == 1 then a ∷ ys else ys)
    (at_bits-fewer (w / 2) (a + 1) n m (omega arith) (λ k ge. sym (bit_at-suc w k) ∙ bits (suc k) (omega arith)))

slice_get-drop : (n k m : ℕ) (xs : List Arena) → n + k ≡ m → slice_get (drop n xs) k ≡ slice_get xs m
slice_get-drop zero k m xs e = ap (slice_get xs) (let same : k ≡ m = omega arith in same)
slice_get-drop (suc n) k m [] e = by m
  where
    by : (m : ℕ) → slice_get {X = Arena} (drop (suc n) []) k ≡ slice_get {X = Arena} [] m
    by zero = refl
    by (suc m) = refl
slice_get-drop (suc n) k zero (x ∷ xs) e = absurd (omega arith)
slice_get-drop (suc n) k (suc m) (x ∷ xs) e = slice_get-drop n k m xs (omega arith)

drop-drop : (n m o : ℕ) (xs : List Arena) → n + m ≡ o → drop m (drop n xs) ≡ drop o xs
drop-drop zero m o xs e = ap (λ k. drop k xs) (let same : m ≡ o = omega arith in same)
drop-drop (suc n) m zero xs e = absurd (omega arith)
drop-drop (suc n) zero (suc o) [] e = refl
drop-drop (suc n) (suc m) (suc o) [] e = refl
drop-drop (suc n) m (suc o) (x ∷ xs) e = drop-drop n m o xs (omega arith)

drop-past : (n : ℕ) (xs : List Arena) → length xs ≤ n → drop n xs ≡ []
drop-past zero [] h = refl
drop-past zero (x ∷ xs) h = absurd (omega arith)
drop-past (suc n) [] h = refl
drop-past (suc n) (x ∷ xs) h = drop-past n xs (omega arith)

-- the bit of an arena in a word of the arenas of a set of zones
word-bit : (word w at k : ℕ) (owned : List (List ℕ)) (arenas : List Arena) → word < 2 ^ 64 → k < 64
    → IsOwnedBy arenas owned
    → ((bit_at w k ≡ 1) ↔ ((z : ℕ) × HasZone word z × HasBit (words_at owned z) at k))
    → bit_at w k ≡ bit_of (is_among word (slice_get arenas (64 * at + k)))
unfolding HasZone
word-bit word w at k owned arenas fits lt h bits = by (slice_get arenas (64 * at + k)) refl
  where
    here : (z : ℕ) → z < 64 → bit_at (slice_index (words_at owned z) at) k
        ≡ bit_of (is_owned z (slice_get arenas (64 * at + k)))
    here z zone =
        let q : (64 * at + k) / 64 ≡ at = omega arith in
        let r : (64 * at + k) % 64 ≡ k = omega arith in
        sym (ap (λ i. bit_at (slice_index (words_at owned z) i) ((64 * at + k) % 64)) q
        ∙ ap (λ i. bit_at (slice_index (words_at owned z) at) i) r) ∙ h.bits z (64 * at + k) zone

    to : (b : Bool) → bit_of b ≡ 1 → b ≡ true
    to true e = refl
    to false e = absurd (omega arith)

    by : (o : Option Arena) → slice_get arenas (64 * at + k) ≡ o → bit_at w k ≡ bit_of (is_among word o)
    by None e = elim (cases_eq (bit_at w k) 1) [
      | inl one ↦ (let s = bits.0 one in
          let none : bit_at (slice_index (words_at owned s.0) at) k ≡ 0 = here s.0 s.1.0
          ∙ ap (λ o. bit_of (is_owned s.0 o)) e in
          absurd (let set : bit_at (slice_index (words_at owned s.0) at) k ≡ 1 = s.2 in omega arith))
      | inr n ↦ (let lt2 = bit_at-lt w k in omega arith)
    ]
    by (Some arena) e =
        let same-zone : arena.zone ≡ arena.zone = refl in
        let most : arena.zone ≤ 64 = get-zone arenas (64 * at + k) arena h.zones e in
        elim (cases_eq (bit_at w k) 1) [
          | inl one ↦ (let s = bits.0 one in
              let set : bit_of (arena.zone == s.0) ≡ 1 = sym (ap (λ o. bit_of (is_owned s.0 o)) e)
              ∙ (sym (here s.0 s.1.0) ∙ s.2) in
              let same : arena.zone ≡ s.0 = eqb-true _ _ (to _ set) in
              let in_zone : bit_at word arena.zone ≡ 1 = ap (bit_at word) same ∙ s.1.1 in
              one ∙ sym (ap bit_of (eq-eqb _ _ in_zone)))
          | inr n ↦ (elim (cases_eq (bit_at word arena.zone) 1) [
            | inl in_zone ↦ (let zone : arena.zone < 64 = own-zone arena.zone most in_zone in absurd
                (n (bits.1 (
                  arena.zone,
                  (zone, in_zone),
                  here arena.zone zone
                      ∙ (ap (λ o. bit_of (is_owned arena.zone o)) e ∙ ap bit_of (eq-eqb _ _ same-zone)),
                ))))
            | inr out ↦ (let lt2 = bit_at-lt w k in
                let off : bit_of (bit_at word arena.zone == 1) ≡ 0 = grind (arith, nat_tests) in omega arith)
          ])
        ]
      where
        own-zone : (zone : ℕ) → zone ≤ 64 → bit_at word zone ≡ 1 → zone < 64
        own-zone zone most one = elim (cases_eq zone 64) [
          | inl e ↦ (let none : bit_at word zone ≡ 0 = ap (bit_at word) e ∙ bit_at_above word 64 64 fits (omega arith)
              in
              absurd (omega (arith, none, one)))
          | inr ne ↦ omega (arith, most, ne)
        ]

        get-zone : (xs : List Arena) (i : ℕ) (x : Arena) → All (λ (a : Arena). a.zone ≤ 64) xs → slice_get xs i ≡ Some x
            → x.zone ≤ 64
        get-zone [] i x all e = cc
        get-zone (y ∷ xs) zero x all e =
            (let first : y.zone ≤ 64 = all 0 y (omega arith) in subst (λ (o : Option Arena). zone-below o) e first)
        get-zone (y ∷ xs) (suc i) x all e = get-zone xs i x (All-tail (λ (a : Arena). a.zone ≤ 64) y xs all) e

-- the next word of the walk
pub walk-on : (word w at n : ℕ) (owned : List (List ℕ)) (arenas : List Arena) (left base : ℕ) → left ≡ 0 → at + 1 ≡ n
    → word < 2 ^ 64 → IsOwnedBy arenas owned
    → ((k : ℕ) → k < 64 → (bit_at w k ≡ 1) ↔ ((z : ℕ) × HasZone word z × HasBit (words_at owned z) at k))
    → at_bits w (range_with_len (64 * at) 64) ++ numbers_from word (64 * n) (drop (64 * n) arenas)
    ≡ at_bits left (range_with_len base 64) ++ numbers_from word (64 * at) (drop (64 * at) arenas)
walk-on word w at n owned arenas left base none next fits h bits =
    let after : 64 * at + 64 ≡ 64 * n = omega arith in
    let block = numbers_from-block word w (64 * at) 64 (64 * n) (drop (64 * at) arenas) after
    (λ k lt. word-bit word w at k owned arenas fits lt h (bits k lt)
    ∙ ap (λ o. bit_of (is_among word o)) (sym (slice_get-drop (64 * at) k (64 * at + k) arenas refl))) in
    ap (λ xs. at_bits w (range_with_len (64 * at) 64) ++ numbers_from word (64 * n) xs)
    (sym (drop-drop (64 * at) 64 (64 * n) arenas after))
    ∙ (block ∙ sym (ap (λ l. at_bits l (range_with_len base 64) ++ numbers_from word (64 * at)
    (drop (64 * at) arenas)) none ∙ ap (λ ys. ys ++ numbers_from word (64 * at) (drop (64 * at) arenas))
    (at_bits-zero (range_with_len base 64))))

-- words without arenas of these zones
abbrev pub AreEmpty : ℕ → List (List ℕ) → (ℕ → Type 0) → Type 0
AreEmpty word owned P = (z w : ℕ) → HasZone word z → P w → slice_index (words_at owned z) w ≡ 0

module _ (word : ℕ) (owned : List (List ℕ)) (arenas : List Arena) (within : word < 2 ^ 64) (h : IsOwnedBy arenas owned)
  where
    -- one such word is passed
    walk-passed : (at : ℕ) → ((z : ℕ) → HasZone word z → slice_index (words_at owned z) at ≡ 0)
        → numbers_from word (64 * suc at) (drop (64 * suc at) arenas)
        ≡ numbers_from word (64 * at) (drop (64 * at) arenas)
    walk-passed at empty =
        let on = walk-on word 0 at (suc at) owned arenas 0 0 refl (omega arith) within h
        (λ k lt. (
          λ one. absurd (let none : bit_at 0 k ≡ 0 = bit_at-zero k in omega arith),
          λ s. absurd (let none : bit_at (slice_index (words_at owned s.0) at) k ≡ 0 =
              ap (λ v. bit_at v k) (empty s.0 s.1) ∙ bit_at-zero k in
              let one : bit_at (slice_index (words_at owned s.0) at) k ≡ 1 = s.2 in omega arith),
        )) in
        ap (λ ys. ys ++ numbers_from word (64 * suc at) (drop (64 * suc at) arenas))
        (sym (at_bits-zero (range_with_len (64 * at) 64)))
        ∙ (on ∙ ap (λ ys. ys ++ numbers_from word (64 * at) (drop (64 * at) arenas))
        (at_bits-zero (range_with_len 0 64)))

    -- several are
    walk-skipped : (d at n : ℕ) → at + d ≡ n → AreEmpty word owned (λ w. (at ≤ w) × (w < n))
        → numbers_from word (64 * n) (drop (64 * n) arenas) ≡ numbers_from word (64 * at) (drop (64 * at) arenas)
    walk-skipped zero at n e empty = ap (λ i. numbers_from word (64 * i) (drop (64 * i) arenas))
        (let same : n ≡ at = omega arith in same)
    walk-skipped (suc d) at n e empty =
        walk-skipped d (suc at) n (omega arith) (λ z w has within. empty z w has (omega (arith, within.0), within.1))
        ∙ walk-passed at (λ z has. empty z at has (omega arith, omega arith))

    -- where no word is left, no arena is
    pub walk-none : (left base at : ℕ) → left ≡ 0 → AreEmpty word owned (λ w. at ≤ w)
        → at_bits left (range_with_len base 64) ++ numbers_from word (64 * at) (drop (64 * at) arenas) ≡ []
    walk-none left base at e empty =
        let far = at + length arenas in
        ap (λ l. at_bits l (range_with_len base 64) ++ numbers_from word (64 * at) (drop (64 * at) arenas)) e
        ∙ (ap (λ ys. ys ++ numbers_from word (64 * at) (drop (64 * at) arenas))
        (at_bits-zero (range_with_len base 64))
        ∙ (sym (walk-skipped (length arenas) at (at + length arenas) refl (λ z w has within. empty z w has within.0))
        ∙ ap (numbers_from word (64 * (at + length arenas)))
        (drop-past (64 * (at + length arenas)) arenas (omega arith))))

    -- the next word that is not empty
    pub walk-found : (w at found n left base : ℕ) → left ≡ 0 → at ≤ found → found + 1 ≡ n
        → AreEmpty word owned (λ k. (at ≤ k) × (k < found))
        → ((k : ℕ) → k < 64 → (bit_at w k ≡ 1) ↔ ((z : ℕ) × HasZone word z × HasBit (words_at owned z) found k))
        → at_bits w (range_with_len (64 * found) 64) ++ numbers_from word (64 * n) (drop (64 * n) arenas)
        ≡ at_bits left (range_with_len base 64) ++ numbers_from word (64 * at) (drop (64 * at) arenas)
    walk-found w at found n left base none le next empty bits =
        walk-on word w found n owned arenas left base none next within h bits
        ∙ ap (λ ns. at_bits left (range_with_len base 64) ++ ns)
        (walk-skipped (found - at) at found (omega arith) empty)

    -- a walk that starts in the middle of a word
    pub walk-started : (w from : ℕ) → w < 2 ^ 64
        → ((k : ℕ) → k < 64 → (bit_at w k ≡ 1) ↔ ((z : ℕ) × HasZone word z × HasBit (words_at owned z) (from / 64) k))
        → at_bits (w / 2 ^ (from % 64)) (range_with_len from 64) ++ numbers_from word (64 * (from / 64 + 1))
        (drop (64 * (from / 64 + 1)) arenas) ≡ numbers_from word from (drop from arenas)
    walk-started w from fits bits =
        let s = from % 64 in
        let q = from / 64 in
        let m = 64 - s in
        let after : from + (64 - from % 64) ≡ 64 * (from / 64 + 1) = omega arith in
        let block = numbers_from-block word (w / 2 ^ (from % 64)) from (64 - from % 64) (64 * (from / 64 + 1))
        (drop from arenas) after (λ k lt.
        (let under : from % 64 + k < 64 = omega arith in
        let place : 64 * (from / 64) + (from % 64 + k) ≡ from + k = omega arith in
        bit_at-shifted w (from % 64) k
        ∙ (word-bit word w (from / 64) (from % 64 + k) owned arenas within under h (bits (from % 64 + k) under)
        ∙ ap (λ o. bit_of (is_among word o))
        (ap (slice_get arenas) place ∙ sym (slice_get-drop from k (from + k) arenas refl))))) in
        ap (λ ys. ys ++ numbers_from word (64 * (from / 64 + 1)) (drop (64 * (from / 64 + 1)) arenas))
        (at_bits-fewer (w / 2 ^ (from % 64)) from 64 (64 - from % 64) (omega arith)
        (λ k ge. bit_at-shifted w (from % 64) k ∙ bit_at_above w 64 (from % 64 + k) fits (omega arith)))
        ∙ (ap (λ xs. at_bits (w / 2 ^ (from % 64)) (range_with_len from (64 - from % 64))
        ++ numbers_from word (64 * (from / 64 + 1)) xs)
        (sym (drop-drop from (64 - from % 64) (64 * (from / 64 + 1)) arenas after)) ∙ block)

-- a walk that has none left of its word
pub walk-no_left : (arenas : List Arena) (walk : Walk) → walk.left ≡ 0
    → walk_rest arenas walk ≡ numbers_from walk.zones.bits (64 * walk.at) (drop (64 * walk.at) arenas)
walk-no_left arenas walk none =
    let after = numbers_from walk.zones.bits (64 * walk.at) (drop (64 * walk.at) arenas) in
    ap (λ w. at_bits w (range_with_len walk.base 64) ++ after) none
    ∙ ap (λ ys. ys ++ after) (at_bits-zero (range_with_len walk.base 64))

-- an arena is told by its head
pub among-of_head : (word a : ℕ) (arenas : List Arena) (head : Head)
    → IsSomeAnd (slice_get arenas a) (λ x. IsHeadOf x head) → HasZone word head.zone → head.is_given_up ≡ false
    → is_among word (slice_get arenas a) ≡ true
unfolding HasZone
among-of_head word a arenas head h has owned = by (slice_get arenas a) h
  where
    by : (o : Option Arena) → IsSomeAnd o (λ x. IsHeadOf x head) → is_among word o ≡ true
    by None none = absurd none
    by (Some x) is =
        eq-eqb _ _ (ap (bit_at word) (is.zone ∙ ap (λ b. if b then 64 else head.zone) owned) ∙ has.1)

-- the next arena of the walk
pub walk-step : (word left base n : ℕ) (arenas : List Arena) → left ≢ 0 → left < 2 ^ 64
    → at_bits left (range_with_len base 64) ++ numbers_from word n (drop n arenas) ≡ (base + trailing_zeros w64 left)
    ∷ (at_bits (bit_and left (left - 1)) (range_with_len base 64) ++ numbers_from word n (drop n arenas))
walk-step word left base n arenas some fits =
    let lowest = bit_at-trailing_zeros w64 left (omega arith) fits in
    let t = trailing_zeros w64 left in
    let within : t < 64 = lowest.0 in
    let first = at_bits-lowest left (range_with_len base 64) 0 (omega arith) fits
    (let long = length-range_with_len base 64 in omega arith) in
    ap (λ ys. ys ++ numbers_from word n (drop n arenas))
    (first ∙ ap (λ (a : ℕ). a ∷ at_bits (bit_and left (left - 1)) (range_with_len base 64))
    (get_or-range_with_len base 64 t 0 within))

-- the first of the numbers from one on
abbrev IsFirst : ℕ → ℕ → List Arena → ℕ → Type 0
IsFirst word n xs a = (n ≤ a) × (a < n + length xs) × (is_among word (slice_get xs (a - n)) ≡ true)
    × ((k : ℕ) → n + k < a → is_among word (slice_get xs k) ≡ false)

first-number : (word n a : ℕ) (xs : List Arena) (rest : List ℕ) → numbers_from word n xs ≡ a ∷ rest
    → IsFirst word n xs a
first-number word n a [] rest e = absurd (cc)
first-number word n a (x ∷ xs) rest e =
    by (in_zones word x.zone) refl e (λ later. first-number word (suc n) a xs rest later)
  where
    earlier : in_zones word x.zone ≡ false → ((k : ℕ) → suc n + k < a → is_among word (slice_get xs k) ≡ false)
        → (k : ℕ) → n + k < a → is_among word (slice_get (x ∷ xs) k) ≡ false
    earlier f later zero lt = f
    earlier f later (suc k) lt = later k (omega arith)

    by : (b : Bool) → in_zones word x.zone ≡ b
        → cond b (n ∷ numbers_from word (suc n) xs) (numbers_from word (suc n) xs) ≡ a ∷ rest
        → (numbers_from word (suc n) xs ≡ a ∷ rest → IsFirst word (suc n) xs a) → IsFirst word n (x ∷ xs) a
    by true f e2 more =
        let same : n ≡ a = cc (e2) in (
          omega arith,
          omega arith,
          ap (λ i. is_among word (slice_get (x ∷ xs) i)) (let none : a - n ≡ 0 = omega arith in none) ∙ f,
          λ k lt. absurd (omega arith),
        )
    by false f e2 more =
        let later = more e2 in (
          omega (arith, later.0),
          omega (arith, later.1),
          ap (λ i. is_among word (slice_get (x ∷ xs) i))
              (let next : a - n ≡ suc (a - suc n) = omega (arith, later.0) in next) ∙ later.2,
          earlier f later.3,
        )

no-number : (word n : ℕ) (xs : List Arena) → numbers_from word n xs ≡ [] → (k : ℕ)
    → is_among word (slice_get xs k) ≡ false
no-number word n [] e zero = refl
no-number word n [] e (suc k) = refl
no-number word n (x ∷ xs) e k = by (in_zones word x.zone) refl e k (λ none. no-number word (suc n) xs none)
  where
    by : (b : Bool) → in_zones word x.zone ≡ b
        → cond b (n ∷ numbers_from word (suc n) xs) (numbers_from word (suc n) xs) ≡ [] → (k : ℕ)
        → (numbers_from word (suc n) xs ≡ [] → (k : ℕ) → is_among word (slice_get xs k) ≡ false)
        → is_among word (slice_get (x ∷ xs) k) ≡ false
    by true f e2 k more = absurd (cc (e2))
    by false f e2 zero more = f
    by false f e2 (suc k) more = more e2 k

-- an arena that the list was cut before
at-cut : (word from other : ℕ) (arenas : List Arena) → from ≤ other
    → is_among word (slice_get (drop from arenas) (other - from)) ≡ is_among word (slice_get arenas other)
at-cut word from other arenas le = ap (is_among word) (slice_get-drop from (other - from) other arenas (omega arith))

-- the arena that a walk from a number on answers first
pub record IsNext (word from : ℕ) (arenas : List Arena) (a : ℕ) : Type 0 where
  pub on : from ≤ a
  pub within : a < length arenas
  pub among : is_among word (slice_get arenas a) ≡ true
  pub lowest : (other : ℕ) → from ≤ other → other < a → is_among word (slice_get arenas other) ≡ false

length-drop : (n : ℕ) (xs : List Arena) → length (drop n xs) ≡ length xs - n
length-drop zero xs = omega arith
length-drop (suc n) [] = omega arith
length-drop (suc n) (x ∷ xs) = length-drop n xs ∙ omega arith

pub next-found : (word from a : ℕ) (arenas : List Arena) (rest : List ℕ) → numbers_from word from (drop from arenas)
    ≡ a ∷ rest → IsNext word from arenas a
next-found word from a arenas rest e =
    let f = first-number word from a (drop from arenas) rest e in
    let long = length-drop from arenas in
    record {
      on = f.0;
      within = omega (arith, f.0, f.1);
      among = sym (at-cut word from a arenas f.0) ∙ f.2;
      lowest = λ other ge lt. sym (at-cut word from other arenas ge) ∙ f.3 (other - from) (omega arith);
    }

pub none-next : (word from : ℕ) (arenas : List Arena) → numbers_from word from (drop from arenas) ≡ [] → (other : ℕ)
    → from ≤ other → is_among word (slice_get arenas other) ≡ false
none-next word from arenas e other ge = sym (at-cut word from other arenas ge)
    ∙ no-number word from (drop from arenas) e (other - from)
