-- The cells that turned black, counted, and listed from the words.
use Rattle.std.proofs.Common.{◌≡◌, ℕ, zero, suc, ◌+◌, ◌-◌, ◌%◌, ◌^◌, ◌<◌, ◌≤◌, min, List, [], ◌∷◌, ◌++◌}
use Rattle.std.proofs.Common.{length, length-append, slice_index, w64, refl, sym, ap, ◌∙◌, arith, All}
use Rattle.std.proofs.Common.{add-one, one-add, Bool, true, false, if◌then◌else◌, ◌==◌}
use Rattle.std.specs.Int.{bit_at, bit_not}
use Rattle.std.specs.Int.Count.{ones-ones}
use Rattle.std.specs.Int.RustNames.{count_ones}
use Rattle.std.proofs.Math.Nat.{mod-eq_of_lt}
use Rattle.std.proofs.lemmas.Nat.{mod-pow-add, ones_cat, pow_pos}
use Rattle.std.proofs.lemmas.Nat.Bits.{bit_at-lt, bit_at_above, bit_at_and, bit_at_not}
use mathlib.Core.Logic.{dite}
use native.Mathlib.Decide.{ℕ_discrete}
use Rattle.mark_words.specs.Places.{place_if, places_below, places_of}
use Rattle.mark_words.specs.Rule.{bit_of}
use Rattle.mark_words.specs.Sums.{only, times}
use Rattle.mark_words.proofs.Counts.{weigh-append}
use Rattle.mark_words.proofs.Places.{times-away, times-inside, times-past}
use Rattle.mark_ahead.proofs.Members.{from_times}
use Rattle.par_mark.specs.Turned.{AreWords, turned_places, turned_slots}

-- a place that a bit names, or none
one_place : (a n b : ℕ) → b < 2 → length (place_if a n b) ≡ count_ones b
one_place a n zero lt = sym (ones-ones 0)
one_place a n (suc zero) lt = sym (ones-ones 1)
one_place a n (suc (suc b)) lt = absurd (omega arith)

-- as many places are named as bits are set
ones_below : (a m n : ℕ) → length (places_below a m n) ≡ count_ones (m % 2 ^ n)
unfolding places_below
ones_below a m zero =
    let none : m % 2 ^ 0 ≡ 0 = omega arith in sym (ap count_ones none ∙ ones-ones 0)
ones_below a m (suc n) =
    let r = ones_below a m n in
    let p = pow_pos n in
    let parts : count_ones (m % 2 ^ suc n) ≡ count_ones (bit_at m n) + count_ones (m % 2 ^ n) =
    ap (λ (k : ℕ). count_ones (m % 2 ^ k)) (sym (one-add n)) ∙ ap count_ones (mod-pow-add m 1 n)
    ∙ ones_cat n (bit_at m n) (m % 2 ^ n) (omega (arith, p)) in
    let here = one_place a n (bit_at m n) (bit_at-lt m n) in
    let both = length-append (places_below a m n) (place_if a n (bit_at m n)) in
    omega arith

pub ones_named : (a m : ℕ) → m < 2 ^ 64 → length (places_of a m) ≡ count_ones m
ones_named a m fits = ones_below a m 64 ∙ ap count_ones (mod-eq_of_lt fits)

few_below : (a m n : ℕ) → length (places_below a m n) ≤ n
unfolding places_below
few_below a m zero = omega arith
few_below a m (suc n) =
    let r = few_below a m n in
    let both = length-append (places_below a m n) (place_if a n (bit_at m n)) in
    let here = few_if (bit_at m n == 1) in
    omega arith
  where
    few_if : (set : Bool) → length {A = ℕ × ℕ} (if set then (a, n) ∷ [] else []) ≤ 1
    few_if true = omega arith
    few_if false = omega arith

pub few_named : (a m : ℕ) → length (places_of a m) ≤ 64
few_named a m = few_below a m 64

module _ (before after : List ℕ) where
  -- one arena more
  length-suc : (n : ℕ) → length (turned_places before after (suc n))
      ≡ length (turned_places before after n) + length (places_of n (turned_slots before after n))
  length-suc n = length-append (turned_places before after n) (places_of n (turned_slots before after n))

  pub turned-more : (n : ℕ) → turned_places before after (n + 1)
      ≡ turned_places before after n ++ places_of n (turned_slots before after n)
  turned-more n = ap (turned_places before after) (add-one n)

  pub length-more : (n : ℕ) → length (turned_places before after (n + 1))
      ≡ length (turned_places before after n) + length (places_of n (turned_slots before after n))
  length-more n = ap (λ (k : ℕ). length (turned_places before after k)) (add-one n) ∙ length-suc n

  pub length-most : (n m : ℕ) → n ≤ m → length (turned_places before after n) ≤ length (turned_places before after m)
  length-most n zero le = let e : n ≡ 0 = omega arith in
      let same = ap (λ (k : ℕ). length (turned_places before after k)) e in omega arith
  length-most n (suc m) le = dite (ℕ_discrete n (suc m))
      (λ e. let same = ap (λ (k : ℕ). length (turned_places before after k)) e in omega arith)
      (λ ne. let r = length-most n m (omega arith) in let more = length-suc m in omega arith)

  -- how often a place stands there
  times-beyond : (q : ℕ × ℕ) (n : ℕ) → n ≤ q.0 → times q (turned_places before after n) ≡ 0
  times-beyond q zero le = refl
  times-beyond q (suc n) le =
      let r = times-beyond q n (omega arith) in
      let here = times-away n (turned_slots before after n) 64 q (λ e. omega arith) in
      let both = weigh-append (only q) (turned_places before after n) (places_of n (turned_slots before after n)) in
      omega arith

  times-at : (q : ℕ × ℕ) (n : ℕ) → q.0 < n
      → times q (turned_places before after n) ≡ times q (places_of q.0 (turned_slots before after q.0))
  times-at q zero lt = absurd (omega arith)
  times-at q (suc n) lt =
      let both = weigh-append (only q) (turned_places before after n) (places_of n (turned_slots before after n)) in
      dite (ℕ_discrete q.0 n)
      (λ e. let r = times-beyond q n (omega arith) in
      let same = ap (λ (a : ℕ). times q (places_of a (turned_slots before after a))) e in omega arith)
      (λ ne. let r = times-at q n (omega arith) in
      let here = times-away n (turned_slots before after n) 64 q ne in omega arith)

  -- the bit of a slot
  bit_turned : (a i : ℕ) → slice_index before a < 2 ^ 64 → i < 64
      → bit_at (turned_slots before after a) i
      ≡ min (bit_at (slice_index after a) i) (1 - bit_at (slice_index before a) i)
  bit_turned a i fits lt = bit_at_and (slice_index after a) (bit_not w64 (slice_index before a)) i
      ∙ ap (min (bit_at (slice_index after a) i)) (bit_at_not w64 (slice_index before a) i fits lt)

  -- if each bit is what it was and as often as the cell was won, the list is that of the cells that were won
  pub turned_won : (n : ℕ) (won : List (ℕ × ℕ)) → AreWords before n → AreWords after n → All (λ q. q.0 < n) won
      → ((q : ℕ × ℕ) → q.0 < n → bit_of after q ≡ bit_of before q + times q won) → (q : ℕ × ℕ)
      → times q (turned_places before after n) ≡ times q won
  turned_won n won fits fits' within bits q = dite (ℕ_discrete (n - q.0) 0)
      (λ past. let r = times-beyond q n (omega arith) in dite (ℕ_discrete (times q won) 0)
      (λ none. omega arith)
      (λ some'. absurd (let lt = from_times (λ (p : ℕ × ℕ). p.0 < n) won q within (omega arith) in omega arith)))
      (λ here.
      let lt : q.0 < n = omega arith in
      let at = times-at q n lt in
      let b = bits q lt in
      let one = bit_at-lt (slice_index after q.0) q.1 in
      dite (ℕ_discrete (64 - q.1) 0)
      (λ high. let z = bit_at_above (slice_index after q.0) 64 q.1 (fits' q.0 lt) (omega arith) in
      let t = times-past q.0 (turned_slots before after q.0) 64 q.1 (omega arith) in omega arith)
      (λ low. let t = times-inside q.0 (turned_slots before after q.0) 64 q.1 (omega arith) in
      let m = bit_turned q.0 q.1 (fits q.0 lt) (omega arith) in omega arith))
