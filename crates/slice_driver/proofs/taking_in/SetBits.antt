-- The bits of a word, counted.
use Rattle.std.proofs.Common.{◌≡◌, ◌<◌, ◌≤◌, ◌+◌, ◌^◌, ◌==◌, ◌/◌, ℕ, zero, suc, Bool, false, if◌then◌else◌, refl, sym}
use Rattle.std.proofs.Common.{ap, ◌∙◌, arith}
use Rattle.std.specs.Int.{bit_at}
use Rattle.std.specs.Int.Count.{ones_in}
use Rattle.std.specs.Int.RustNames.{count_ones}
use Rattle.std.proofs.Math.Nat.{two-pow-succ}
use Rattle.std.proofs.lemmas.Nat.Bits.{bit_at-lt, bit_at_above, bit_at_lowest, bit_at-suc}
use Rattle.barriers.specs.Colours.{slots_below}
use Rattle.barriers.proofs.Slots.{same_below}

abbrev pub one_if : Bool → ℕ
one_if b = if b then 1 else 0

-- the first slot, and those after it
pub from_first : (f : ℕ → Bool) (n : ℕ) → slots_below f (suc n) ≡ one_if (f 0) + slots_below (λ i. f (suc i)) n
unfolding slots_below
from_first f zero = omega arith
from_first f (suc n) = let rest = from_first f n in omega (arith, rest)

-- a count split in two, slot by slot
pub split : (f g h : ℕ → Bool) (n : ℕ) → ((i : ℕ) → i < n → one_if (f i) ≡ one_if (g i) + one_if (h i))
    → slots_below f n ≡ slots_below g n + slots_below h n
unfolding slots_below
split f g h zero each = omega arith
split f g h (suc n) each =
    let here = each n (omega arith) in
    let rest = split f g h n (λ i lt. each i (omega (arith, lt))) in
    omega (arith, here, rest)

-- past the last slot that passes
past : (f : ℕ → Bool) (k m : ℕ) → ((i : ℕ) → k ≤ i → f i ≡ false) → slots_below f (m + k) ≡ slots_below f k
unfolding slots_below
past f k zero none = ap (slots_below f) (omega arith)
past f k (suc m) none =
    let one : suc m + k ≡ suc (m + k) = omega arith in
    let same = ap (slots_below f) one in
    let here = ap one_if (none (m + k) (omega arith)) in
    let rest = past f k m none in
    omega (arith, same, here, rest)

abbrev pub has_bit : ℕ → ℕ → Bool
has_bit w i = bit_at w i == 1

one_bit : (b : ℕ) → b < 2 → one_if (b == 1) ≡ b
one_bit zero lt = refl
one_bit (suc zero) lt = refl
one_bit (suc (suc b)) lt = absurd (omega (arith, lt))

digits : (d w : ℕ) → ones_in d w ≡ slots_below (has_bit w) d
unfolding slots_below ones_in
digits zero w = refl
digits (suc d) w =
    let first = from_first (has_bit w) d in
    let low = one_bit (bit_at w 0) (bit_at-lt w 0) ∙ bit_at_lowest w in
    let rest = digits d (w / 2) in
    let same = same_below (has_bit (w / 2)) (λ i. has_bit w (suc i)) d
    (λ i lt. ap (λ (b : ℕ). b == 1) (bit_at-suc w i)) in
    omega (arith, first, low, rest, same)

below_power : (n : ℕ) → n < 2 ^ n
below_power zero = omega arith
below_power (suc n) = let rest = below_power n in let two = two-pow-succ n in omega (arith, rest, two)

none_from : (w k : ℕ) → w < 2 ^ k → (i : ℕ) → k ≤ i → has_bit w i ≡ false
none_from w k fits i le = ap (λ (b : ℕ). b == 1) (bit_at_above w k i fits le)

-- the ones of a word of 64 bits are its bits that are set
pub ones_are_bits : (w : ℕ) → w < 2 ^ 64 → count_ones w ≡ slots_below (has_bit w) 64
unfolding count_ones ones_in
ones_are_bits w fits =
    let all = digits w w in
    let own = past (has_bit w) w 64 (none_from w w (below_power w)) in
    let whole = past (has_bit w) 64 w (none_from w 64 fits) in
    let order : slots_below (has_bit w) (64 + w) ≡ slots_below (has_bit w) (w + 64) = ap (slots_below (has_bit w))
    (omega arith) in
    all ∙ sym own ∙ order ∙ whole
