-- What stays where the arenas of a set of zones are handed to sweeping.
use Rattle.std.proofs.Common.{◌≡◌, ◌<◌, ◌≤◌, ◌*◌, ◌==◌, ◌&&◌, inl, inr, ℕ, zero, suc, Bool, true, false, if◌then◌else◌}
use Rattle.std.proofs.Common.{List}
use Rattle.std.proofs.Common.{[], ◌∷◌, length, Option, Some, None, slice_get, All, option_map, refl, sym, ◌∙◌, ap}
use Rattle.std.proofs.Common.{subst, arith, ne_eqb, eq-eqb}
use Rattle.std.proofs.lemmas.Bool.{cases_eq, and_left}
use Rattle.std.proofs.lemmas.List.Elements.{All-nil, All-cons, All-head, All-tail}
use Rattle.std.specs.Int.{bit_at}
use Rattle.gz_names.specs.Zones.{HasZone}
use Rattle.arena_table.specs.Sets.{arena_bit}
use Rattle.arena_table.specs.Slots.{Arena, handed_out, held_in, held_by, bit_of}
use Rattle.arena_table.specs.Indexed.{IndexState, IsIndexed, words_at, is_open, is_owned, in_zones}
use Rattle.arena_table.specs.Table.{in_these}

-- an arena after it, and what it says of it
abbrev handed : ℕ → Arena → Arena
handed word x = if in_zones word x.zone then handed_out x else x

zone-handed : (word : ℕ) (x : Arena) → (handed word x).zone ≡ x.zone
zone-handed word x = by (in_zones word x.zone)
  where
    by : (b : Bool) → (if b then handed_out x else x).zone ≡ x.zone
    by true = refl
    by false = refl

slice_get-handed : (word : ℕ) (xs : List Arena) (a : ℕ) → slice_get (in_these handed_out word xs) a
    ≡ option_map (handed word) (slice_get xs a)
slice_get-handed word [] a = refl
slice_get-handed word (x ∷ xs) zero = refl
slice_get-handed word (x ∷ xs) (suc a) = slice_get-handed word xs a

owned-handed : (word z : ℕ) (o : Option Arena) → is_owned z (option_map (handed word) o) ≡ is_owned z o
owned-handed word z None = refl
owned-handed word z (Some x) = ap (λ y. y == z) (zone-handed word x)

open-one : (word z : ℕ) (x : Arena)
    → is_open z (Some (handed word x)) ≡ (if in_zones word z then false else is_open z (Some x))
open-one word z x = elim (cases_eq x.zone z) [
  | inl e ↦ same (in_zones word z) (ap (in_zones word) e)
  | inr n ↦ other (in_zones word x.zone) (in_zones word z) (ne_eqb _ _ n)
]
  where
    closed : (b : Bool) → (b && false) ≡ false
    closed true = refl
    closed false = refl

    same : (c : Bool) → in_zones word x.zone ≡ c
        → is_open z (Some (handed word x)) ≡ (if c then false else is_open z (Some x))
    same true e = ap (λ b. is_open z (Some (if b then handed_out x else x))) e ∙ closed (x.zone == z)
    same false e = ap (λ b. is_open z (Some (if b then handed_out x else x))) e

    other : (b c : Bool) → (x.zone == z) ≡ false → is_open z (Some (if b then handed_out x else x))
        ≡ (if c then false else is_open z (Some x))
    other true true e = and_left (x.zone == z) _ e
    other true false e = and_left (x.zone == z) _ e ∙ sym (and_left (x.zone == z) _ e)
    other false true e = and_left (x.zone == z) _ e
    other false false e = refl

open-handed : (word z : ℕ) (o : Option Arena) → is_open z (option_map (handed word) o)
    ≡ (if in_zones word z then false else is_open z o)
open-handed word z None = by (in_zones word z)
  where
    by : (b : Bool) → false ≡ (if b then false else false)
    by true = refl
    by false = refl
open-handed word z (Some x) = open-one word z x

zones-handed : (word : ℕ) (xs : List Arena) → All (λ (x : Arena). x.zone ≤ 64) xs
    → All (λ (x : Arena). x.zone ≤ 64) (in_these handed_out word xs)
zones-handed word [] all = All-nil (λ (x : Arena). x.zone ≤ 64)
zones-handed word (x ∷ xs) all = All-cons (λ (x : Arena). x.zone ≤ 64) (handed word x) (in_these handed_out word xs)
    (subst (λ z. z ≤ 64) (sym (zone-handed word x)) (All-head (λ (x : Arena). x.zone ≤ 64) x xs all))
    (zones-handed word xs (All-tail (λ (x : Arena). x.zone ≤ 64) x xs all))

-- the index after it
pub IsIndexed-handed : (xs ys : List Arena) (index next : IndexState) (word : ℕ) → IsIndexed xs index
    → ys ≡ in_these handed_out word xs → next.owned ≡ index.owned
    → ((z a : ℕ) → HasZone word z → arena_bit (words_at next.open_ z) a ≡ 0)
    → ((z : ℕ) → length (words_at next.open_ z) ≡ length (words_at index.open_ z))
    → ((z : ℕ) → (HasZone word z → ⊥) → words_at next.open_ z ≡ words_at index.open_ z) → IsIndexed ys next
unfolding HasZone
IsIndexed-handed xs ys index next word h is own closed long others =
    subst (λ as'. IsIndexed as' next) (sym is) (record {
      owned = record {
        zones = zones-handed word xs h.owned.zones;
        bits = λ z a lt. ap (λ ws. arena_bit (words_at ws z) a) own
            ∙ (h.owned.bits z a lt ∙ ap bit_of (sym (owned-same z a)));
      };
      open_ = λ z a lt. open-bit z a lt ∙ ap bit_of (sym (open-same z a));
      covered = λ z a lt owns. subst (λ n. a < 64 * n) (sym (long z)) (h.covered z a lt (sym (owned-same z a) ∙ owns));
    })
  where
    owned-same : (z a : ℕ) → is_owned z (slice_get (in_these handed_out word xs) a) ≡ is_owned z (slice_get xs a)
    owned-same z a = ap (is_owned z) (slice_get-handed word xs a) ∙ owned-handed word z (slice_get xs a)

    open-same : (z a : ℕ) → is_open z (slice_get (in_these handed_out word xs) a)
        ≡ (if in_zones word z then false else is_open z (slice_get xs a))
    open-same z a = ap (is_open z) (slice_get-handed word xs a) ∙ open-handed word z (slice_get xs a)

    open-bit : (z a : ℕ) → z < 64
        → arena_bit (words_at next.open_ z) a ≡ bit_of (if in_zones word z then false else is_open z (slice_get xs a))
    open-bit z a lt = elim (cases_eq (bit_at word z) 1) [
      | inl e ↦ (closed z a (lt, e)
          ∙ sym (ap (λ b. bit_of (if b then false else is_open z (slice_get xs a))) (eq-eqb _ _ e)))
      | inr n ↦ (ap (λ ws. arena_bit ws a) (others z (λ has. n has.1))
          ∙ (h.open_ z a lt ∙ sym (ap (λ b. bit_of (if b then false else is_open z (slice_get xs a))) (ne_eqb _ _ n))))
    ]

-- no cell is gone
held_by-handed : (word : ℕ) (xs : List Arena) → held_by (in_these handed_out word xs) ≡ held_by xs
held_by-handed word [] = refl
held_by-handed word (x ∷ xs) =
    (let rest = held_by-handed word xs in let here = by (in_zones word x.zone) in omega arith)
  where
    by : (b : Bool) → held_in (if b then handed_out x else x).slots ≡ held_in x.slots
    by true = refl
    by false = refl

pub held_by-out : (word : ℕ) (xs ys : List Arena) → ys ≡ in_these handed_out word xs → held_by ys ≡ held_by xs
held_by-out word xs ys is = ap held_by is ∙ held_by-handed word xs
