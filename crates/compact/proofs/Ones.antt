-- How many bits of a word are set.
use Rattle.std.proofs.Common.{◌≡◌, ◌<◌, ◌+◌, ◌-◌, ◌*◌, ◌/◌, ◌%◌, ◌^◌, ℕ, zero, suc, min, List, [], ◌∷◌, Option, Some}
use Rattle.std.proofs.Common.{None}
use Rattle.std.proofs.Common.{refl, sym, ◌∙◌, ap, arith, bit_and, pow-suc, w64}
use Rattle.std.specs.Int.{bit_at, bit_not, trailing_zeros}
use Rattle.std.specs.Int.Count.{ones-ones}
use Rattle.std.specs.Int.RustNames.{count_ones}
use Rattle.std.proofs.lemmas.Nat.{and_block, and_mask, mod_low, ones_cat, pow_pos, zero_from_ones}
use Rattle.std.proofs.lemmas.Nat.Bits.{bit_at-trailing_zeros, bit_at_and, same_from_bits}
use Rattle.arena_table.specs.Cells.{CellState}
use Rattle.arena_table.specs.Slots.{alloc_word_of, held_in}
use Rattle.arena_table.proofs.LowestBit.{split}

one-more : (b : ℕ) → b < 2 → count_ones (1 - b) + count_ones b ≡ 1
one-more zero lt = (let one = ones-ones 1 in let none = ones-ones 0 in omega (arith, one, none))
one-more (suc zero) lt = (let one = ones-ones 1 in let none = ones-ones 0 in omega (arith, one, none))
one-more (suc (suc b)) lt = absurd (omega (arith, lt))

-- a word and its complement
ones-not : (k n : ℕ) → n < 2 ^ k → count_ones (2 ^ k - 1 - n) + count_ones n ≡ k
ones-not zero n fits =
    let is : n ≡ 0 = omega (arith, fits) in
    let other : 2 ^ zero - 1 - n ≡ 0 = omega (arith, fits) in
    let none = ones-ones 0 in
    let first = ap count_ones other in
    let second = ap count_ones is in
    omega (arith, none, first, second)
ones-not (suc k) n fits =
    let twice : 2 ^ suc k ≡ 2 ^ k * 2 = pow-suc 2 k in
    let high : n / 2 < 2 ^ k = omega (arith, fits, twice) in
    let rest = ones-not k (n / 2) high in
    let low : n % 2 < 2 = omega arith in
    let is : n ≡ n / 2 * 2 ^ 1 + n % 2 = omega arith in
    let other : 2 ^ suc k - 1 - n ≡ (2 ^ k - 1 - n / 2) * 2 ^ 1 + (1 - n % 2) = omega (arith, fits, twice, high) in
    let first = ap count_ones other ∙ ones_cat 1 (2 ^ k - 1 - n / 2) (1 - n % 2) (omega arith) in
    let second = ap count_ones is ∙ ones_cat 1 (n / 2) (n % 2) (omega arith) in
    let here = one-more (n % 2) low in
    omega (arith, rest, first, second, here)

-- the cells of an arena, and its free slots
pub ones-alloc : (slots : List (Option CellState)) → count_ones (alloc_word_of slots) ≡ held_in slots
ones-alloc [] = ones-ones 0
ones-alloc (None ∷ slots) =
    let w = alloc_word_of slots in
    let same : 0 + 2 * w ≡ w * 2 ^ 1 + 0 = omega arith in
    let parts = ap count_ones same ∙ ones_cat 1 w 0 (omega arith) in
    let none = ones-ones 0 in
    let rest = ones-alloc slots in
    omega (arith, parts, none, rest)
ones-alloc (Some cell ∷ slots) =
    let w = alloc_word_of slots in
    let same : 1 + 2 * w ≡ w * 2 ^ 1 + 1 = omega arith in
    let parts = ap count_ones same ∙ ones_cat 1 w 1 (omega arith) in
    let one = ones-ones 1 in
    let rest = ones-alloc slots in
    omega (arith, parts, one, rest)

pub ones-free : (slots : List (Option CellState)) (word : ℕ) → alloc_word_of slots ≡ word → word < 2 ^ 64
    → count_ones (bit_not w64 word) ≡ 64 - held_in slots
ones-free slots word is fits =
    let both : count_ones (bit_not w64 word) + count_ones word ≡ 64 = ones-not 64 word fits in
    let held = sym (ap count_ones is) ∙ ones-alloc slots in
    omega (arith, both, held)

and-self : (n : ℕ) → bit_and n n ≡ n
and-self n = same_from_bits (bit_and n n) n (λ i. bit_at_and n n i
    ∙ (let same : min (bit_at n i) (bit_at n i) ≡ bit_at n i = omega arith in same))

-- a word without its lowest bit
pub ones-rest : (n : ℕ) → 0 < n → n < 2 ^ 64 → count_ones (bit_and n (n - 1)) + 1 ≡ count_ones n
ones-rest n some fits = by (split t n lowest.2 lowest.1)
  where
    t : ℕ
    t = trailing_zeros w64 n

    lowest : (t < 64) × (bit_at n t ≡ 1) × ((i : ℕ) → i < t → bit_at n i ≡ 0)
    lowest = bit_at-trailing_zeros w64 n some fits

    by : (m : ℕ) × (n ≡ m * 2 ^ suc t + 2 ^ t) → count_ones (bit_and n (n - 1)) + 1 ≡ count_ones n
    by (m, e) =
        let pos : 0 < 2 ^ t = pow_pos t in
        let twice : 2 ^ suc t ≡ 2 ^ t * 2 = pow-suc 2 t in
        let less : n - 1 ≡ m * 2 ^ suc t + (2 ^ t - 1) = omega (arith, e, pos) in
        let bit : 2 ^ t ≡ 1 * 2 ^ t + 0 = omega arith in
        let low : bit_and (2 ^ t) (2 ^ t - 1) ≡ 0 =
        and_mask (2 ^ t) t ∙ ap (λ x. x % 2 ^ t) bit ∙ mod_low 1 t 0 pos in
        let block = and_block (suc t) m m (2 ^ t) (2 ^ t - 1) (omega (arith, pos, twice)) (omega (arith, pos, twice)) in
        let rest : bit_and n (n - 1) ≡ m * 2 ^ suc t + 0 =
        ap (λ x. bit_and x (n - 1)) e ∙ ap (bit_and (m * 2 ^ suc t + 2 ^ t)) less ∙ block
        ∙ ap (λ x. x * 2 ^ suc t + bit_and (2 ^ t) (2 ^ t - 1)) (and-self m) ∙ ap (λ x. m * 2 ^ suc t + x) low in
        let none = ones-ones 0 in
        let one = ones-ones 1 in
        let after = ap count_ones rest ∙ ones_cat (suc t) m 0 (omega (arith, pos, twice)) in
        let single = ap count_ones bit ∙ ones_cat t 1 0 pos in
        let before = ap count_ones e ∙ ones_cat (suc t) m (2 ^ t) (omega (arith, pos, twice)) in
        omega (arith, none, one, after, single, before)

-- a word with a bit
pub some-ones : (n : ℕ) → 0 < n → 0 < count_ones n
some-ones n some = by (count_ones n) refl
  where
    by : (k : ℕ) → count_ones n ≡ k → 0 < count_ones n
    by zero e = absurd (let none = zero_from_ones n e in omega (arith, none, some))
    by (suc k) e = omega (arith, e)

pub not-fits : (word : ℕ) → bit_not w64 word < 2 ^ 64
not-fits word = (let less : 2 ^ 64 - 1 - word < 2 ^ 64 = omega arith in less)
