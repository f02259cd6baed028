-- Steps and grouping steps of zones, by how many zones a collection has.
use Rattle.std.proofs.Common.{◌≡◌, ◌+◌, ◌-◌, ◌*◌, ◌<◌, ◌≤◌, ◌==◌, ℕ, zero, suc, Bool, true, false, refl, ap, subst}
use Rattle.std.proofs.Common.{arith, add-one, eqb-true, inl, inr, List, [], ◌∷◌, length, slice_get, if◌then◌else◌}
use Rattle.std.specs.Int.{bit_at}
use Rattle.std.proofs.lemmas.Bool.{cases_lt}
use Rattle.std.proofs.lemmas.Nat.Bits.{bit_at-lt}
use Rattle.gz_names.specs.Zones.{zones_from, zones_in}
use Rattle.gz_names.specs.declared.zone_sets.ZoneSet.{ZoneSet}
use Rattle.zones.specs.declared.states.State.{State}
use Rattle.heap_core.specs.Shape.{state_or}
use Rattle.zone_edges.specs.Noted.{Noted}
use Rattle.slice_driver.specs.Remaining.{steps_left, steps_of, ungrouped_below}

-- how many zones below a number a word has
zones_below : ℕ → ℕ → ℕ
zones_below word zero = 0
zones_below word (suc z) = zones_below word z + (if bit_at word z == 1 then 1 else 0)

from_length : (word n count : ℕ) → length (zones_from word n count) + zones_below word n ≡ zones_below word (n + count)
unfolding zones_from zones_below
from_length word n zero =
    let same = ap (zones_below word) (let back : n ≡ n + 0 = omega arith in back) in
    omega (arith, same)
from_length word n (suc count) =
    let rest = from_length word (n + 1) count in
    let next : zones_below word (n + 1) ≡ zones_below word (suc n) = ap (zones_below word) (add-one n) in
    let last : zones_below word (n + 1 + count) ≡ zones_below word (n + suc count) =
    ap (zones_below word) (let same : n + 1 + count ≡ n + suc count = omega arith in same) in
    go (bit_at word n == 1) refl rest next last
  where
    go : (b : Bool) → (bit_at word n == 1) ≡ b
        → length (zones_from word (n + 1) count) + zones_below word (n + 1) ≡ zones_below word (n + 1 + count)
        → zones_below word (n + 1) ≡ zones_below word (suc n)
        → zones_below word (n + 1 + count) ≡ zones_below word (n + suc count)
        → length (if b then n ∷ zones_from word (n + 1) count else zones_from word (n + 1) count)
        + zones_below word n ≡ zones_below word (n + suc count)
    go true is rest next last =
        let one : ◌≡◌ {A = ℕ} (if bit_at word n == 1 then 1 else 0) 1 = ap (λ b. if b then 1 else 0) is in
        omega (arith, rest, next, last, one)
    go false is rest next last =
        let none : ◌≡◌ {A = ℕ} (if bit_at word n == 1 then 1 else 0) 0 = ap (λ b. if b then 1 else 0) is in
        omega (arith, rest, next, last, none)

-- no zone is below the first
none_below : (word : ℕ) → zones_below word 0 ≡ 0
unfolding zones_below
none_below word = refl

zones_length : (zones : ZoneSet) → length (zones_in zones) ≡ zones_below zones.bits 64
unfolding zones_in
zones_length zones =
    let all = from_length zones.bits 0 64 in
    let none = none_below zones.bits in
    omega (arith, all, none)

below_most : (word n m : ℕ) → zones_below word n ≤ zones_below word (n + m)
unfolding zones_below
below_most word n zero = subst (λ k. zones_below word n ≤ zones_below word k)
    (let same : n ≡ n + 0 = omega arith in same) (omega arith)
below_most word n (suc m) = subst (λ k. zones_below word n ≤ zones_below word k)
    (let same : suc (n + m) ≡ n + suc m = omega arith in same)
    (let rest = below_most word n m in omega (arith, rest))

-- a word of this number of bits has no zone past them
past_none : (word most : ℕ) → ((z : ℕ) → bit_at word z ≡ 1 → z < most) → (n : ℕ)
    → zones_below word (most + n) ≡ zones_below word most
unfolding zones_below
past_none word most small zero = ap (zones_below word) (let same : most + 0 ≡ most = omega arith in same)
past_none word most small (suc n) =
    let rest = past_none word most small n in
    let none = off (bit_at word (most + n) == 1) refl in
    let next = ap (zones_below word) (let same : most + suc n ≡ suc (most + n) = omega arith in same) in
    omega (arith, rest, none, next)
  where
    off : (b : Bool) → (bit_at word (most + n) == 1) ≡ b → ◌≡◌ {A = ℕ} (if b then 1 else 0) 0
    off true e = absurd (let low = small (most + n) (eqb-true (bit_at word (most + n)) 1 e) in omega (arith, low))
    off false e = refl

few_below : (word : ℕ) → ((z : ℕ) → bit_at word z ≡ 1 → z < 64) → (n : ℕ) → zones_below word n ≤ zones_below word 64
few_below word small n = elim (cases_lt n 64) [
  | inl lt ↦ subst (λ k. zones_below word n ≤ zones_below word k)
      (let same : n + (64 - n) ≡ 64 = omega (arith, lt) in same) (below_most word n (64 - n))
  | inr ge ↦ (let past = past_none word 64 small (n - 64) in
      let same : zones_below word n ≡ zones_below word (64 + (n - 64)) =
      ap (zones_below word) (let back : n ≡ 64 + (n - 64) = omega (arith, ge) in back) in
      omega (arith, past, same))
]

below_few : (word n : ℕ) → zones_below word n ≤ n
unfolding zones_below
below_few word zero = omega arith
below_few word (suc z) = let rest = below_few word z in let here = one (bit_at word z == 1) in omega (arith, rest, here)
  where
    one : (b : Bool) → (if b then 1 else 0) ≤ 1
    one true = omega arith
    one false = omega arith

-- zones that are below some number are no more than that
pub few_zones : (zones : ZoneSet) (most : ℕ) → ((z : ℕ) → bit_at zones.bits z ≡ 1 → z < most)
    → length (zones_in zones) ≤ most
few_zones zones most small = elim (cases_lt most 64) [
  | inl lt ↦ (let past = past_none zones.bits most small (64 - most) in
      let same : zones_below zones.bits 64 ≡ zones_below zones.bits (most + (64 - most)) =
      ap (zones_below zones.bits) (let back : 64 ≡ most + (64 - most) = omega (arith, lt) in back) in
      let few = below_few zones.bits most in
      let long = zones_length zones in
      omega (arith, past, same, few, long))
  | inr ge ↦ (let few = below_few zones.bits 64 in let long = zones_length zones in omega (arith, few, long, ge))
]

-- zones that have not had their grouping step
ungrouped_most : (n : Noted) (k : ℕ) → ungrouped_below n k ≤ zones_below n.zones.bits k
unfolding ungrouped_below zones_below
ungrouped_most n zero = omega arith
ungrouped_most n (suc z) =
    let rest = ungrouped_most n z in
    let here = one (bit_at n.zones.bits z) (bit_at n.stepped.bits z) (bit_at-lt n.zones.bits z) in
    omega (arith, rest, here)
  where
    one : (b s : ℕ) → b < 2 → b * (1 - s) ≤ (if b == 1 then 1 else 0)
    one zero s low = omega arith
    one (suc zero) s low = omega arith
    one (suc (suc b)) s low = absurd (omega (arith, low))

-- zones of a collection that have not
pub few_ungrouped : (n : Noted) (zones : ZoneSet) → n.zones ≡ zones → ungrouped_below n 64 ≤ length (zones_in zones)
few_ungrouped n zones are =
    let all = ungrouped_most n 64 in
    let long = zones_length zones in
    let same : zones_below n.zones.bits 64 ≡ zones_below zones.bits 64 =
    ap (λ (y : ZoneSet). zones_below y.bits 64) are in
    omega (arith, all, long, same)

-- two steps at most for each zone of a word, and none for others
steps_few : (word : ℕ) (states : List State) (n : ℕ)
    → ((z : ℕ) → steps_of (state_or (slice_get states z)) ≤ (if bit_at word (n + z) == 1 then 2 else 0))
    → 2 * zones_below word n + steps_left states ≤ 2 * zones_below word (n + length states)
unfolding zones_below
steps_few word [] n few =
    let same : zones_below word n ≡ zones_below word (n + 0) =
    ap (zones_below word) (let back : n ≡ n + 0 = omega arith in back) in
    omega (arith, same)
steps_few word (s ∷ states) n few =
    let rest = steps_few word states (suc n)
    (λ z. subst (λ k. steps_of (state_or (slice_get states z)) ≤ (if bit_at word k == 1 then 2 else 0))
    (let next : n + suc z ≡ suc n + z = omega arith in next) (few (suc z))) in
    let here = subst (λ k. steps_of s ≤ (if bit_at word k == 1 then 2 else 0))
    (let same : n + 0 ≡ n = omega arith in same) (few 0) in
    let twice = both (bit_at word n == 1) in
    let last : zones_below word (suc n + length states) ≡ zones_below word (n + suc (length states)) =
    ap (zones_below word) (let same : suc n + length states ≡ n + suc (length states) = omega arith in same) in
    omega (arith, rest, here, twice, last)
  where
    both : (b : Bool) → (if b then 2 else 0) ≡ 2 * (if b then 1 else 0)
    both true = refl
    both false = refl

pub few_steps_begun : (zones : ZoneSet) (states : List State) → ((z : ℕ) → bit_at zones.bits z ≡ 1 → z < 64)
    → ((z : ℕ) → steps_of (state_or (slice_get states z)) ≤ (if bit_at zones.bits z == 1 then 2 else 0))
    → steps_left states ≤ 2 * length (zones_in zones)
few_steps_begun zones states small few =
    let all = steps_few zones.bits states 0
    (λ z. subst (λ k. steps_of (state_or (slice_get states z)) ≤ (if bit_at zones.bits k == 1 then 2 else 0))
    (let same : z ≡ 0 + z = omega arith in same) (few z)) in
    let most = few_below zones.bits small (0 + length states) in
    let long = zones_length zones in
    let none = none_below zones.bits in
    omega (arith, all, most, long, none)
