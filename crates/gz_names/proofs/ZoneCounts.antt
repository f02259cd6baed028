-- How many zones a set has.
use Rattle.std.proofs.Common.{◌≡◌, ◌≢◌, ◌<◌, ◌≤◌, ◌+◌, ◌-◌, ◌↔◌, inl, inr, ℕ, zero, suc, min, sym, subst, arith}
use Rattle.std.proofs.lemmas.Bool.{cases_eq}
use Rattle.std.proofs.lemmas.Nat.Bits.{bit_at-lt}
use Rattle.std.specs.Int.{bit_at}
use Rattle.gz_names.specs.Zones.{HasZone}
use Rattle.gz_names.proofs.Words.{HasZone-below}

-- how many of the zones below n are in a word
unfoldable pub zones_below : ℕ → ℕ → ℕ
zones_below zero word = 0
zones_below (suc n) word = zones_below n word + bit_at word n

zones_below-removed : (n word rest k : ℕ) → n ≤ 64 → ((z : ℕ) → HasZone rest z ↔ (HasZone word z × (z ≢ k)))
    → HasZone word k → zones_below n rest + min 1 (n - k) ≤ zones_below n word
unfolding zones_below HasZone
zones_below-removed zero word rest k le is there = omega arith
zones_below-removed (suc n) word rest k le is there =
    let before = zones_below-removed n word rest k (omega arith) is there in
    let p = bit_at-lt rest n in
    let q = bit_at-lt word n in
    elim (cases_eq n k) [
      | inl e ↦ (let one : bit_at word n ≡ 1 = subst (λ j. bit_at word j ≡ 1) (sym e) there.1 in
          let none : bit_at rest n ≢ 1 = λ r. ((is n).0 (omega arith, r)).1 e in omega arith)
      | inr ne ↦ (elim (cases_eq (bit_at rest n) 1) [
        | inl r ↦ (let one : bit_at word n ≡ 1 = ((is n).0 (omega arith, r)).0.1 in omega arith)
        | inr r ↦ omega arith
      ])
    ]

-- a set without one of its zones has fewer
pub fewer_zones : (word rest k : ℕ) → ((z : ℕ) → HasZone rest z ↔ (HasZone word z × (z ≢ k))) → HasZone word k
    → zones_below 64 rest < zones_below 64 word
fewer_zones word rest k is there = omega (
  arith,
  zones_below-removed 64 word rest k (omega arith) is there,
  HasZone-below word k there,
)
