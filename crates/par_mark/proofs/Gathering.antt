-- Slots of an arena that are gathered, and read one by one.
use Rattle.std.proofs.Common.{◌≡◌, ℕ, ◌+◌, ◌-◌, ◌*◌, ◌%◌, ◌^◌, ◌<◌, List, ◌∷◌, sym, refl, ap}
use Rattle.std.proofs.Common.{◌∙◌, arith, bit_and, bit_or, w64}
use Rattle.std.specs.Int.{bit_at, trailing_zeros}
use Rattle.std.proofs.lemmas.Nat.{one_shl}
use Rattle.std.proofs.lemmas.Nat.Bits.{bit_at-pow_same, bit_at-pow_other, bit_at-trailing_zeros, bit_at-zero}
use Rattle.std.proofs.lemmas.Nat.Bits.{bit_at_set_same, bit_at_set_other}
use Rattle.arena_table.proofs.LowestBit.{bit_at-rest}
use Rattle.arena_table.proofs.WordBits.{if_same, if_other}
use Rattle.mark_words.specs.Sums.{weigh}
use Rattle.mark_words.specs.Places.{places_of}
use Rattle.mark_words.proofs.Counts.{weigh-snoc}
use Rattle.mark_words.proofs.Places.{below-lowest, below-zero, weigh-added}
use Rattle.par_mark.specs.Slots.{AreGathered, IsGathered}
use Rattle.par_mark.proofs.Scanning.{weigh-one}

-- the place at the lowest bit, and the others
pub lowest_place : (a w : ℕ) → 0 < w → w < 2 ^ 64
    → places_of a w ≡ (a, trailing_zeros w64 w) ∷ places_of a (bit_and w (w - 1))
lowest_place a w some' fits =
    let t = trailing_zeros w64 w in
    let l = bit_at-trailing_zeros w64 w some' fits in
    below-lowest a w (bit_and w (w - 1)) t 64 l.0 l.1 (bit_at-rest w t some' fits ∙ if_same t t 0 (bit_at w t) refl)
    l.2 (λ i ne. bit_at-rest w i some' fits ∙ if_other i t 0 (bit_at w i) ne)

-- the slot of one try
pub gathered_one : (p : ℕ × ℕ) (tries : List (ℕ × ℕ)) → p.1 < 64
    → AreGathered p 1 tries tries (1 * 2 ^ p.1 % 2 ^ 64)
gathered_one p tries low =
    let e : 1 * 2 ^ p.1 % 2 ^ 64 ≡ 2 ^ p.1 = one_shl p.1 64 low in
    let w : (h : ℕ × ℕ → ℕ) → weigh h (places_of p.0 (1 * 2 ^ p.1 % 2 ^ 64)) ≡ h p = λ h.
    let z = ap (weigh h) (below-zero p.0 64) in
    let m = weigh-added h p.0 0 (1 * 2 ^ p.1 % 2 ^ 64) p.1 64 low (bit_at-zero p.1)
    (ap (λ (n : ℕ). bit_at n p.1) e ∙ bit_at-pow_same p.1)
    (λ i ne. ap (λ (n : ℕ). bit_at n i) e ∙ bit_at-pow_other p.1 i ne ∙ sym (bit_at-zero i)) in omega arith in record {
      same = λ h. let m = w h in omega arith;
      first_in = λ h. let m = w h in omega arith;
      few = (let m = w (λ _. 1) in let l = weigh-one (places_of p.0 (1 * 2 ^ p.1 % 2 ^ 64)) in omega arith);
    }

-- one slot more
pub gathered_more : (p : ℕ × ℕ) (n : ℕ) (tries middle tries' : List (ℕ × ℕ)) (slots slot : ℕ)
    → AreGathered p n tries middle slots → IsGathered p.0 slots slot middle tries'
    → AreGathered p (n + 1) tries tries' (bit_or slots (1 * 2 ^ slot % 2 ^ 64))
gathered_more p n tries middle tries' slots slot a g =
    let more : (h : ℕ × ℕ → ℕ) → weigh h (places_of p.0 (bit_or slots (1 * 2 ^ slot % 2 ^ 64)))
    ≡ weigh h (places_of p.0 slots) + h (p.0, slot) = λ h. weigh-added h p.0 slots _ slot 64 g.below g.further
    (bit_at_set_same w64 slots slot g.below) (λ i ne. bit_at_set_other w64 slots slot g.below i ne) in record {
      same = λ h. let m = more h in let s = a.same h in let t = ap (weigh h) g.tries_is in
          let u = weigh-snoc h tries' (p.0, slot) in omega arith;
      first_in = λ h. let m = more h in let f = a.first_in h in omega arith;
      few = (let m = more (λ _. 1) in let l = weigh-one (places_of p.0 slots) in
          let k = weigh-one (places_of p.0 (bit_or slots (1 * 2 ^ slot % 2 ^ 64))) in let f = a.few in omega arith);
    }
