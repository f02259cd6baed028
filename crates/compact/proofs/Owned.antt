-- The arenas of a zone, as the heap finds those of a set of zones.
use Rattle.std.proofs.Common.{◌≡◌, ◌≢◌, ◌<◌, ◌≤◌, ◌^◌, ◌↔◌, ℕ, true, false, List, length, Option, Some, None, IfSome}
use Rattle.std.proofs.Common.{IfNone}
use Rattle.std.proofs.Common.{[], ◌∷◌, zero, suc, slice_get, inl, inr, refl, sym, ◌∙◌, ap, eqb-true, eq-eqb, arith}
use Rattle.std.specs.Int.{bit_at}
use Rattle.std.proofs.lemmas.Bool.{cases_lt, false≢true}
use Rattle.std.proofs.lemmas.Nat.Bits.{bit_at_above}
use Rattle.std.proofs.lemmas.Option.{slice_get_within}
use Rattle.gz_names.specs.Zones.{HasZone}
use Rattle.arena_table.specs.Indexed.{in_zones}
use Rattle.heap_core.specs.Shape.{ArenaShape, is_owned_in}
use Rattle.compact.specs.Arenas.{IsNextArena, NoArenaFrom}

zone-in : (word zone z : ℕ) → word < 2 ^ 64 → ((z : ℕ) → HasZone word z ↔ (z ≡ zone)) → in_zones word z ≡ true
    → z ≡ zone
unfolding HasZone
zone-in word zone z fits only is =
    let one = eqb-true (bit_at word z) 1 is in
    elim (cases_lt z 64) [
      | inl lt ↦ (only z).0 (lt, one)
      | inr past ↦ (let none = bit_at_above word 64 z fits past in absurd (omega (arith, none, one)))
    ]

zone-out : (word zone z : ℕ) → ((z : ℕ) → HasZone word z ↔ (z ≡ zone)) → in_zones word z ≡ false → z ≢ zone
unfolding HasZone
zone-out word zone z only out e = false≢true (sym out ∙ eq-eqb (bit_at word z) 1 ((only z).1 e).1)

pub next-some : (arenas : List ArenaShape) (word zone from : ℕ) → word < 2 ^ 64
    → ((z : ℕ) → HasZone word z ↔ (z ≡ zone)) → length arenas < 2 ^ 32 → (o : Option ℕ)
    → IfSome o (λ a. (from ≤ a) × (is_owned_in word (slice_get arenas a) ≡ true))
    → IfSome o (λ a. (b : ℕ) → from ≤ b → b < a → is_owned_in word (slice_get arenas b) ≡ false)
    → IfSome o (IsNextArena arenas zone from)
next-some arenas word zone from fits only short None owned lowest = tt
next-some arenas word zone from fits only short (Some a) owned lowest = by (slice_get arenas a) refl owned.1
  where
    by : (o : Option ArenaShape) → slice_get arenas a ≡ o → is_owned_in word o ≡ true → IsNextArena arenas zone from a
    by None at own = absurd (false≢true own)
    by (Some x) at own = record {
      arena = x;
      at = at;
      zone_is = zone-in word zone x.zone fits only own;
      from_is = owned.0;
      lowest = λ b other le lt found. zone-out word zone other.zone only
          (ap (is_owned_in word) (sym found) ∙ lowest b le lt);
      few = (let within = slice_get_within arenas a x at in omega (arith, within, short));
    }

pub next-none : (arenas : List ArenaShape) (word zone from : ℕ) → ((z : ℕ) → HasZone word z ↔ (z ≡ zone))
    → (o : Option ℕ) → IfNone o ((b : ℕ) → from ≤ b → is_owned_in word (slice_get arenas b) ≡ false)
    → IfNone o (NoArenaFrom arenas zone from)
next-none arenas word zone from only None none =
    λ b other le found. zone-out word zone other.zone only (ap (is_owned_in word) (sym found) ∙ none b le)
next-none arenas word zone from only (Some a) none = tt

-- an arena that was made
pub get-within : {X : Type 0} (xs : List X) (k : ℕ) → k < length xs → (x : X) × (slice_get xs k ≡ Some x)
get-within [] k lt = absurd (omega (arith, lt))
get-within (x ∷ xs) zero lt = (x, refl)
get-within (x ∷ xs) (suc k) lt = get-within xs k (omega (arith, lt))
