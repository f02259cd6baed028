-- What a write to one word does to the bits of a list of words.
use Rattle.std.proofs.Common.{◌≡◌, ◌≢◌, ◌<◌, ◌≤◌, ◌+◌, ◌*◌, ◌/◌, ◌%◌, ◌^◌, ◌-◌, ◌==◌, inl, inr, ℕ, zero, suc, List, []}
use Rattle.std.proofs.Common.{◌∷◌, ◌++◌, length, get_or, set, slice_index, if◌then◌else◌, refl, sym, ◌∙◌, ap, arith}
use Rattle.std.proofs.Common.{bit_and, bit_or, w64, get_or-set_same, get_or-set_other, length-append}
use Rattle.std.proofs.lemmas.List.{get_or_past}
use Rattle.std.proofs.lemmas.Nat.{shr-shr, shr_le}
use Rattle.std.proofs.lemmas.Bool.{cases_eq, cases_lt}
use Rattle.std.proofs.lemmas.Bool.Decides.{nat_tests}
use Rattle.std.proofs.lemmas.Nat.Bits.{bit_at-zero, bit_at_above, bit_at_set_same, bit_at_set_other, bit_at_clear_same}
use Rattle.std.proofs.lemmas.Nat.Bits.{bit_at_and, bit_at_clear_other, bit_at_or, bit_at-trailing_zeros}
use Rattle.std.specs.Int.{bit_at, bit_not, trailing_zeros}
use Rattle.arena_table.specs.Sets.{arena_bit, IsSummed}

-- the bits of a list in which one word was written
bit_of_written : (ws : List ℕ) (i j v : ℕ) → i / 64 < length ws → j / 64 ≡ i / 64
    → arena_bit (set ws (i / 64) v) j ≡ bit_at v (j % 64)
bit_of_written ws i j v h e =
    ap (λ w. bit_at w (j % 64)) (ap (λ k. get_or (set ws (i / 64) v) k 0) e ∙ get_or-set_same ws (i / 64) v 0 h)

bit_of_other : (ws : List ℕ) (i j v : ℕ) → j / 64 ≢ i / 64 → arena_bit (set ws (i / 64) v) j ≡ arena_bit ws j
bit_of_other ws i j v n = ap (λ w. bit_at w (j % 64)) (get_or-set_other ws (i / 64) (j / 64) v 0 n)

pub if_same : (j i x y : ℕ) → j ≡ i → (if j == i then x else y) ≡ x
if_same j i x y e = grind (arith, nat_tests)

pub if_other : (j i x y : ℕ) → j ≢ i → (if j == i then x else y) ≡ y
if_other j i x y n = grind (arith, nat_tests)

-- the bits of a list in which one bit of one word was written
pub arena_bit-written : (ws : List ℕ) (i j v x : ℕ) → i / 64 < length ws → bit_at v (i % 64) ≡ x
    → ((k : ℕ) → k < 64 → k ≢ i % 64 → bit_at v k ≡ bit_at (get_or ws (i / 64) 0) k)
    → arena_bit (set ws (i / 64) v) j ≡ (if j == i then x else arena_bit ws j)
arena_bit-written ws i j v x h here others = elim (cases_eq j i) [
  | inl e ↦ (bit_of_written ws i j v h (ap (λ k. k / 64) e)
      ∙ (ap (λ k. bit_at v (k % 64)) e ∙ (here ∙ sym (if_same j i x (arena_bit ws j) e))))
  | inr n ↦ (elim (cases_eq (j / 64) (i / 64)) [
    | inl d ↦ (let apart : j % 64 ≢ i % 64 = λ f. n (omega arith) in
        let within : j % 64 < 64 = omega arith in
        bit_of_written ws i j v h d
        ∙ (others (j % 64) within apart
        ∙ (ap (λ k. bit_at (get_or ws k 0) (j % 64)) (sym d) ∙ sym (if_other j i x (arena_bit ws j) n))))
    | inr d ↦ (bit_of_other ws i j v d ∙ sym (if_other j i x (arena_bit ws j) n))
  ])
]

pub arena_bit-set : (ws : List ℕ) (i j : ℕ) → i < 64 * length ws
    → arena_bit (set ws (i / 64) (bit_or (get_or ws (i / 64) 0) (1 * 2 ^ (i % 64) % 18446744073709551616))) j
    ≡ (if j == i then 1 else arena_bit ws j)
arena_bit-set ws i j h =
    let w = get_or ws (i / 64) 0 in
    let below : i % 64 < 64 = omega arith in
    arena_bit-written ws i j _ 1 (omega arith) (bit_at_set_same w64 w (i % 64) below)
    (λ k _ n. bit_at_set_other w64 w (i % 64) below k n)

pub arena_bit-clear : (ws : List ℕ) (i j : ℕ) → i < 64 * length ws
    → arena_bit (set ws (i / 64)
    (bit_and (get_or ws (i / 64) 0) (bit_not w64 (1 * 2 ^ (i % 64) % 18446744073709551616)))) j
    ≡ (if j == i then 0 else arena_bit ws j)
arena_bit-clear ws i j h =
    let w = get_or ws (i / 64) 0 in
    let below : i % 64 < 64 = omega arith in
    arena_bit-written ws i j _ 0 (omega arith) (bit_at_clear_same w64 w (i % 64) below)
    (λ k lt n. bit_at_clear_other w64 w (i % 64) below k lt n)

-- a word where the bit of a slot is this
module _ (word slot : ℕ) (fits : word < 2 ^ 64) (below : slot < 64) where
  abbrev pub cleared : ℕ
  cleared = bit_and word (bit_not w64 (1 * 2 ^ slot % 18446744073709551616))

  cleared-other : (s : ℕ) → s ≢ slot → bit_at cleared s ≡ bit_at word s
  cleared-other s ne = elim (cases_lt s 64) [
    | inl lt ↦ bit_at_clear_other w64 word slot below s lt ne
    | inr le ↦
        (let none = bit_at_above word 64 s fits le in
        let both = bit_at_and word (bit_not w64 (1 * 2 ^ slot % 18446744073709551616)) s in
        omega (arith, none, both))
  ]

  or-zero : (s : ℕ) → bit_at (bit_or cleared (0 * 2 ^ slot % 18446744073709551616)) s ≡ bit_at cleared s
  or-zero s =
      let none : 0 * 2 ^ slot % 18446744073709551616 ≡ 0 = omega arith in
      let either = bit_at_or cleared 0 s in
      let nothing = bit_at-zero s in
      ap (λ m. bit_at (bit_or cleared m) s) none ∙ omega (arith, either, nothing)

  pub bit_at-marked : (bit s : ℕ) → bit < 2
      → bit_at (bit_or cleared (bit * 2 ^ slot % 18446744073709551616)) s
      ≡ (if s == slot then bit else bit_at word s)
  bit_at-marked zero s small = elim (cases_eq s slot) [
    | inl e ↦ or-zero s ∙ ap (bit_at cleared) e ∙ bit_at_clear_same w64 word slot below
        ∙ sym (if_same s slot 0 (bit_at word s) e)
    | inr ne ↦ or-zero s ∙ cleared-other s ne ∙ sym (if_other s slot 0 (bit_at word s) ne)
  ]
  bit_at-marked (suc zero) s small = elim (cases_eq s slot) [
    | inl e ↦ ap (bit_at (bit_or cleared (1 * 2 ^ slot % 18446744073709551616))) e
        ∙ bit_at_set_same w64 cleared slot below ∙ sym (if_same s slot 1 (bit_at word s) e)
    | inr ne ↦ bit_at_set_other w64 cleared slot below s ne ∙ cleared-other s ne
        ∙ sym (if_other s slot 1 (bit_at word s) ne)
  ]
  bit_at-marked (suc (suc n)) s small = absurd (omega (arith, small))

-- a word that is 0, put at the end, changes nothing
pub get_or-push_zero : (ws : List ℕ) (k : ℕ) → get_or (ws ++ 0 ∷ []) k 0 ≡ get_or ws k 0
get_or-push_zero [] zero = refl
get_or-push_zero [] (suc k) = refl
get_or-push_zero (w ∷ ws) zero = refl
get_or-push_zero (w ∷ ws) (suc k) = get_or-push_zero ws k

arena_bit-push_zero : (ws : List ℕ) (j : ℕ) → arena_bit (ws ++ 0 ∷ []) j ≡ arena_bit ws j
arena_bit-push_zero ws j = ap (λ w. bit_at w (j % 64)) (get_or-push_zero ws (j / 64))

-- words are appended, and nothing is added
pub record IsCovering (before words groups : List ℕ) : Type 0 where
  pub summed : IsSummed words groups
  pub kept : length before ≤ length words
  pub same : (arena : ℕ) → arena_bit words arena ≡ arena_bit before arena

pub IsSummed-group : (words groups : List ℕ) → IsSummed words groups → length groups * 64 ≤ length words
    → IsSummed words (groups ++ 0 ∷ [])
IsSummed-group words groups h full = record {
  few = h.few;
  room = (let longer = length-append groups (0 ∷ []) in let old = h.room in omega arith);
  tight = (let longer = length-append groups (0 ∷ []) in omega arith);
  summed = λ w. rw arena_bit-push_zero (h.summed w);
}

pub IsCovering-word : (before words groups hs : List ℕ) → IsCovering before words groups → IsSummed words hs
    → length words < 64 * length hs → length words < 2 ^ 26 → IsCovering before (words ++ 0 ∷ []) hs
IsCovering-word before words groups hs h summed room few = record {
  summed = record {
    few = (let longer = length-append words (0 ∷ []) in omega arith);
    room = (let longer = length-append words (0 ∷ []) in omega arith);
    tight = (let longer = length-append words (0 ∷ []) in let old = summed.tight in omega arith);
    summed = λ w. rw get_or-push_zero (summed.summed w);
  };
  kept = (let longer = length-append words (0 ∷ []) in let old = h.kept in omega arith);
  same = λ j. arena_bit-push_zero words j ∙ h.same j;
}

-- a word with a bit is not 0
word-from_bit : (ws : List ℕ) (j : ℕ) → arena_bit ws j ≡ 1 → get_or ws (j / 64) 0 ≢ 0
word-from_bit ws j one none =
    (let zero : arena_bit ws j ≡ 0 = ap (λ w. bit_at w (j % 64)) none ∙ bit_at-zero (j % 64) in omega arith)

pub IsSummed-insert : (ws gs vs hs : List ℕ) (i : ℕ) → IsSummed ws gs → length vs ≡ length ws → length hs ≡ length gs
    → arena_bit vs i ≡ 1 → ((w : ℕ) → w ≢ i / 64 → slice_index vs w ≡ slice_index ws w)
    → ((w : ℕ) → arena_bit hs w ≡ (if w == i / 64 then 1 else arena_bit gs w)) → IsSummed vs hs
IsSummed-insert ws gs vs hs i h lv lh one others bits = record {
  few = (let old = h.few in omega arith);
  room = (let old = h.room in omega arith);
  tight = (let old = h.tight in omega arith);
  summed = λ w. elim (cases_eq w (i / 64)) [
    | inl e ↦ (λ _. rw e (word-from_bit vs i one), λ _. bits w ∙ if_same w (i / 64) 1 (arena_bit gs w) e)
    | inr n ↦ rw (others w n, bits w, if_other w (i / 64) 1 (arena_bit gs w) n) (h.summed w)
  ];
}

pub IsSummed-emptied : (ws gs vs hs : List ℕ) (i : ℕ) → IsSummed ws gs → length vs ≡ length ws → length hs ≡ length gs
    → slice_index vs (i / 64) ≡ 0 → ((w : ℕ) → w ≢ i / 64 → slice_index vs w ≡ slice_index ws w)
    → ((w : ℕ) → arena_bit hs w ≡ (if w == i / 64 then 0 else arena_bit gs w)) → IsSummed vs hs
IsSummed-emptied ws gs vs hs i h lv lh none others bits = record {
  few = (let old = h.few in omega arith);
  room = (let old = h.room in omega arith);
  tight = (let old = h.tight in omega arith);
  summed = λ w. elim (cases_eq w (i / 64)) [
    | inl e ↦ (
      λ one. absurd (let zero = bits w ∙ if_same w (i / 64) 0 (arena_bit gs w) e in omega arith),
      λ n. absurd (n (rw e none)),
    )
    | inr n ↦ rw (others w n, bits w, if_other w (i / 64) 0 (arena_bit gs w) n) (h.summed w)
  ];
}

pub IsSummed-left : (ws gs vs : List ℕ) (i : ℕ) → IsSummed ws gs → length vs ≡ length ws → i < 64 * length ws
    → slice_index vs (i / 64) ≢ 0 → (slice_index ws (i / 64) ≡ 0 → slice_index vs (i / 64) ≡ 0)
    → ((w : ℕ) → w ≢ i / 64 → slice_index vs w ≡ slice_index ws w) → IsSummed vs gs
IsSummed-left ws gs vs i h lv lt some empty others = record {
  few = (let old = h.few in omega arith);
  room = (let old = h.room in omega arith);
  tight = (let old = h.tight in omega arith);
  summed = λ w. elim (cases_eq w (i / 64)) [
    | inl e ↦ (λ _. rw e some, λ _. (h.summed w).1 (rw e (λ none. some (empty none))))
    | inr n ↦ rw (others w n) (h.summed w)
  ];
}

-- the lowest bit of the first word that is not 0 is the lowest bit
pub bit-lowest : (ws : List ℕ) (at w : ℕ) → get_or ws at 0 ≡ w → w ≢ 0 → w < 2 ^ 64
    → arena_bit ws (64 * at + trailing_zeros w64 w) ≡ 1
bit-lowest ws at w e n fits =
    let t = bit_at-trailing_zeros w64 w (omega arith) fits in
    let place : (64 * at + trailing_zeros w64 w) / 64 ≡ at =
    (let below : trailing_zeros w64 w < 64 = t.0 in omega arith) in
    let slot : (64 * at + trailing_zeros w64 w) % 64 ≡ trailing_zeros w64 w =
    (let below : trailing_zeros w64 w < 64 = t.0 in omega arith) in
    ap (λ k. bit_at (get_or ws k 0) ((64 * at + trailing_zeros w64 w) % 64)) place
    ∙ (ap (λ v. bit_at v ((64 * at + trailing_zeros w64 w) % 64)) e ∙ (ap (bit_at w) slot ∙ t.1))

pub bits-below_lowest : (ws : List ℕ) (at w : ℕ) → get_or ws at 0 ≡ w → w ≢ 0 → w < 2 ^ 64
    → ((k : ℕ) → k < at → get_or ws k 0 ≡ 0) → (other : ℕ) → other < 64 * at + trailing_zeros w64 w
    → arena_bit ws other ≡ 0
bits-below_lowest ws at w e n fits before other lt =
    let t = bit_at-trailing_zeros w64 w (omega arith) fits in
    let below : trailing_zeros w64 w < 64 = t.0 in
    elim (cases_lt (other / 64) at) [
      | inl less ↦ (ap (λ v. bit_at v (other % 64)) (before (other / 64) less) ∙ bit_at-zero (other % 64))
      | inr more ↦ (let here : other / 64 ≡ at = omega arith in
          let under : other % 64 < trailing_zeros w64 w = omega arith in
          ap (λ k. bit_at (get_or ws k 0) (other % 64)) here
          ∙ (ap (λ v. bit_at v (other % 64)) e ∙ t.2 (other % 64) under))
    ]

-- the same from a word on
pub bits-between : (ws : List ℕ) (first at w : ℕ) → get_or ws at 0 ≡ w → w ≢ 0 → w < 2 ^ 64
    → ((k : ℕ) → first ≤ k → k < at → get_or ws k 0 ≡ 0) → (other : ℕ) → 64 * first ≤ other
    → other < 64 * at + trailing_zeros w64 w → arena_bit ws other ≡ 0
bits-between ws first at w e n fits before other ge lt =
    let t = bit_at-trailing_zeros w64 w (omega arith) fits in
    let below : trailing_zeros w64 w < 64 = t.0 in
    elim (cases_lt (other / 64) at) [
      | inl less ↦ (ap (λ v. bit_at v (other % 64)) (before (other / 64) (omega arith) less) ∙ bit_at-zero (other % 64))
      | inr more ↦ (let here : other / 64 ≡ at = omega arith in
          let under : other % 64 < trailing_zeros w64 w = omega arith in
          ap (λ k. bit_at (get_or ws k 0) (other % 64)) here
          ∙ (ap (λ v. bit_at v (other % 64)) e ∙ t.2 (other % 64) under))
    ]

-- where all words from one on are 0, there are no bits
pub bits-past : (ws : List ℕ) (first : ℕ) → ((k : ℕ) → first ≤ k → get_or ws k 0 ≡ 0) → (other : ℕ) → 64 * first ≤ other
    → arena_bit ws other ≡ 0
bits-past ws first none other ge = ap (λ v. bit_at v (other % 64)) (none (other / 64) (omega arith))
    ∙ bit_at-zero (other % 64)

-- the bits of a word that was shifted down are those of the word from a bit on
pub bit_at-shifted : (w s k : ℕ) → bit_at (w / 2 ^ s) k ≡ bit_at w (s + k)
bit_at-shifted w s k = ap (λ v. v % 2) (shr-shr w s k)

-- the rest of a word, from the bit of a number on
in-word : (ws : List ℕ) (from other w : ℕ) → get_or ws (from / 64) 0 ≡ w → from ≤ other → other / 64 ≡ from / 64
    → arena_bit ws other ≡ bit_at (w / 2 ^ (from % 64)) (other - from)
in-word ws from other w e ge same =
    let place : other % 64 ≡ from % 64 + (other - from) = omega arith in
    ap (λ k. bit_at (get_or ws k 0) (other % 64)) same
    ∙ (ap (λ v. bit_at v (other % 64)) e
    ∙ (ap (bit_at w) place ∙ sym (bit_at-shifted w (from % 64) (other - from))))

pub none-in_word : (ws : List ℕ) (from w : ℕ) → get_or ws (from / 64) 0 ≡ w → w / 2 ^ (from % 64) ≡ 0 → (other : ℕ)
    → from ≤ other → other / 64 ≡ from / 64 → arena_bit ws other ≡ 0
none-in_word ws from w e none other ge same = in-word ws from other w e ge same
    ∙ (ap (λ v. bit_at v (other - from)) none ∙ bit_at-zero (other - from))

-- its lowest bit
pub record IsLowestIn (ws : List ℕ) (from found : ℕ) : Type 0 where
  pub here : found / 64 ≡ from / 64
  pub some : arena_bit ws found ≡ 1
  pub lowest : (other : ℕ) → from ≤ other → other / 64 ≡ from / 64 → other < found → arena_bit ws other ≡ 0

pub lowest-in_word : (ws : List ℕ) (from w : ℕ) → get_or ws (from / 64) 0 ≡ w → w < 2 ^ 64 → w / 2 ^ (from % 64) ≢ 0
    → IsLowestIn ws from (from + trailing_zeros w64 (w / 2 ^ (from % 64)))
lowest-in_word ws from w e fits n =
    let rest = w / 2 ^ (from % 64) in
    let small : w / 2 ^ (from % 64) < 2 ^ 64 = (let le = shr_le w (from % 64) in omega (arith, le)) in
    let t = bit_at-trailing_zeros w64 (w / 2 ^ (from % 64)) (omega arith) small in
    let z = trailing_zeros w64 (w / 2 ^ (from % 64)) in
    let one : bit_at w (from % 64 + trailing_zeros w64 (w / 2 ^ (from % 64))) ≡ 1 =
    sym (bit_at-shifted w (from % 64) (trailing_zeros w64 (w / 2 ^ (from % 64)))) ∙ t.1 in
    let within : from % 64 + trailing_zeros w64 (w / 2 ^ (from % 64)) < 64 =
    elim (cases_lt (from % 64 + trailing_zeros w64 (w / 2 ^ (from % 64))) 64) [
      | inl lt ↦ lt
      | inr ge ↦ absurd (let above = bit_at_above w 64 (from % 64 + trailing_zeros w64 (w / 2 ^ (from % 64))) fits
          (omega arith) in omega (arith, one, above))
    ] in
    let here : (from + trailing_zeros w64 (w / 2 ^ (from % 64))) / 64 ≡ from / 64 = omega (arith, within) in
    let less : (from + trailing_zeros w64 (w / 2 ^ (from % 64))) - from ≡ trailing_zeros w64 (w / 2 ^ (from % 64)) =
    omega arith in
    record {
      here = here;
      some = in-word ws from _ w e (omega arith) here ∙ (ap (bit_at (w / 2 ^ (from % 64))) less ∙ t.1);
      lowest = λ other ge same lt. in-word ws from other w e ge same ∙ t.2 (other - from) (omega (arith, ge, lt));
    }

-- with no bit over the words there is none in them
pub bits-none : (ws gs : List ℕ) → IsSummed ws gs → ((w : ℕ) → arena_bit gs w ≡ 0) → (other : ℕ)
    → arena_bit ws other ≡ 0
bits-none ws gs h none other = elim (cases_eq (get_or ws (other / 64) 0) 0) [
  | inl e ↦ (ap (λ v. bit_at v (other % 64)) e ∙ bit_at-zero (other % 64))
  | inr n ↦ absurd (let one = (h.summed (other / 64)).1 n in let zero = none (other / 64) in omega arith)
]

-- the words before the first that has a bit over it are 0
pub words-before : (ws gs : List ℕ) (at : ℕ) → IsSummed ws gs → ((w : ℕ) → w < at → arena_bit gs w ≡ 0) → (k : ℕ)
    → k < at → get_or ws k 0 ≡ 0
words-before ws gs at h none k lt = elim (cases_eq (get_or ws k 0) 0) [
  | inl e ↦ e
  | inr n ↦ absurd (let one = (h.summed k).1 n in let zero = none k lt in omega arith)
]

-- only within a list there is something else than 0
pub within-from_some : (ws : List ℕ) (k : ℕ) → get_or ws k 0 ≢ 0 → k < length ws
within-from_some ws k n = elim (cases_lt k (length ws)) [
  | inl lt ↦ lt
  | inr le ↦ absurd (n (get_or_past ws k 0 le))
]
