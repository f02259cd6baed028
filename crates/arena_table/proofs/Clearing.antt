-- The sets of some zones are emptied.
use Rattle.std.proofs.Common.{◌≡◌, ◌≢◌, ◌<◌, ◌-◌, ◌^◌, ◌⊎◌, inl, inr, ℕ, List, [], length, set, refl, sym, ◌∙◌, ap}
use Rattle.std.proofs.Common.{arith, bit_and, w64, length-set, get_or-set_same, get_or-set_other}
use Rattle.std.proofs.lemmas.Bool.{cases_eq}
use Rattle.std.proofs.lemmas.Nat.Bits.{bit_at-zero}
use Rattle.std.specs.Int.{bit_at, trailing_zeros}
use Rattle.gz_names.specs.Zones.{HasZone}
use Rattle.arena_table.specs.Sets.{arena_bit}
use Rattle.arena_table.specs.Indexed.{words_at}
use Rattle.arena_table.proofs.Uniting.{HasZone-lowest, HasZone-of_rest, HasZone-rest}

-- the sets of some zones of the word are emptied, and those of these zones are left
pub record IsClearing (before now : List (List ℕ)) (zones left : ℕ) : Type 0 where
  pub long : length now ≡ length before
  pub room : (z : ℕ) → length (words_at now z) ≡ length (words_at before z)
  pub within : (z : ℕ) → HasZone left z → HasZone zones z
  pub cleared : (z a : ℕ) → HasZone zones z → HasZone left z ⊎ (arena_bit (words_at now z) a ≡ 0)
  pub kept : (z : ℕ) → ¬ HasZone zones z → words_at now z ≡ words_at before z

pub IsClearing-none : (before : List (List ℕ)) (zones : ℕ) → IsClearing before before zones zones
IsClearing-none before zones = record {
  long = refl;
  room = λ z. refl;
  within = λ z h. h;
  cleared = λ z a h. inl h;
  kept = λ z off. refl;
}

-- the set of the lowest zone is emptied
pub IsClearing-more : (before now : List (List ℕ)) (zones left : ℕ) (set' : List ℕ)
    → IsClearing before now zones left → 0 < left → left < 2 ^ 64 → trailing_zeros w64 left < length now
    → length set' ≡ length (words_at now (trailing_zeros w64 left)) → ((a : ℕ) → arena_bit set' a ≡ 0)
    → IsClearing before (set now (trailing_zeros w64 left) set') zones (bit_and left (left - 1))
IsClearing-more before now zones left set' h some fits lt long none = record {
  long = length-set now n set' ∙ h.long;
  room = λ z. (elim (cases_eq z n) [
    | inl e ↦ (ap length (at-same z e) ∙ (long ∙ (ap (λ k. length (words_at now k)) (sym e) ∙ h.room z)))
    | inr ne ↦ (ap length (at-other z ne) ∙ h.room z)
  ]);
  within = λ z k. h.within z (HasZone-of_rest left z some fits k);
  cleared = λ z a zone. (elim (cases_eq z n) [
    | inl e ↦ inr (ap (λ ws. arena_bit ws a) (at-same z e) ∙ none a)
    | inr ne ↦ (elim (h.cleared z a zone) [
      | inl k ↦ inl (HasZone-rest left z some fits k ne)
      | inr zero_bit ↦ inr (ap (λ ws. arena_bit ws a) (at-other z ne) ∙ zero_bit)
    ])
  ]);
  kept = λ z off. (at-other z (λ e. off (h.within z (is-left z e))) ∙ h.kept z off);
}
  where
    n : ℕ
    n = trailing_zeros w64 left

    at-same : (z : ℕ) → z ≡ n → words_at (set now n set') z ≡ set'
    at-same z e = ap (words_at (set now n set')) e ∙ get_or-set_same now n set' [] lt

    at-other : (z : ℕ) → z ≢ n → words_at (set now n set') z ≡ words_at now z
    at-other z ne = get_or-set_other now n z set' [] ne

    is-left : (z : ℕ) → z ≡ n → HasZone left z
    is-left z e = rw e (HasZone-lowest left some fits)

-- when none is left, all are emptied
pub cleared-all : (before now : List (List ℕ)) (zones left : ℕ) → IsClearing before now zones left → left ≡ 0
    → (z a : ℕ) → HasZone zones z → arena_bit (words_at now z) a ≡ 0
unfolding HasZone
cleared-all before now zones left h none z a zone = elim (h.cleared z a zone) [
  | inl k ↦ absurd (let one : bit_at left z ≡ 1 = k.1 in let zero_bit : bit_at left z ≡ 0 = ap (λ w. bit_at w z) none
      ∙ bit_at-zero z in omega arith)
  | inr e ↦ e
]
