-- Which arenas of a zone a compaction keeps, and which it gives up.
use Rattle.std.proofs.Common.{◌≡◌, ◌<◌, ◌≤◌, ◌+◌, ◌==◌, ◌&&◌, ◌||◌, ◌++◌, ℕ, zero, suc, Bool, true, false}
use Rattle.std.proofs.Common.{if◌then◌else◌, nat_eq, nat_le, nat_lt, List, [], ◌∷◌, length, map, Option, Some, None}
use Rattle.std.proofs.Common.{refl, sym, ap, subst, ◌∙◌, inl, inr, arith}
use Rattle.std.proofs.lemmas.Bool.{eqb-true, le-ltb, leb-false, leb-true, ltb-false, ltb-true}
use Rattle.std.specs.List.{list_any}
use Rattle.std.proofs.Common.{slice_get, Contains}
use Rattle.arena_table.specs.Slots.{no_zone}
use Rattle.colour_defs.specs.Compaction.{given_up_from}
use Rattle.colour_defs.specs.Ends.{arenas_from}
use Rattle.colour_defs.proofs.Lists.{contains_cases, contains_head, contains_tail, nothing_in_none}
use Rattle.colour_defs.proofs.Membership.{among_from, among_to}
use Rattle.compact.specs.Packing.{count_below}
use Rattle.heap_core.specs.Moving.{count_from, is_from, zones_from}
use Rattle.heap_core.specs.Shape.{ArenaShape}
use Rattle.slice_driver.specs.Worlds.{owners_of}
use Rattle.slice_driver.proofs.basics.Owners.{owner_by}

-- the numbers of the arenas that a test picks, where the first of the list has the number n
abbrev pub picked : (ℕ → ArenaShape → Bool) → ℕ → List ArenaShape → List ℕ
picked test n [] = []
picked test n (arena ∷ arenas) =
    if test n arena then n ∷ picked test (n + 1) arenas else picked test (n + 1) arenas

abbrev pub is_below : ℕ → ℕ → ℕ → ArenaShape → Bool
is_below zone first n arena = nat_lt n first && (arena.zone == zone)

-- an arena with this number passes a test, where the first of these arenas has the number `n`
abbrev pub IsPicked : (ℕ → ArenaShape → Bool) → ℕ → List ArenaShape → ℕ → Type 0
IsPicked test n arenas a = (i : ℕ) × (a ≡ n + i) × (arena : ArenaShape) × (slice_get arenas i ≡ Some arena)
    × (test (n + i) arena ≡ true)

-- which arenas are picked
pub picked_has : (test : ℕ → ArenaShape → Bool) (n : ℕ) (arenas : List ArenaShape) (a : ℕ)
    → Contains (picked test n arenas) a → IsPicked test n arenas a
picked_has test n [] a c = absurd (nothing_in_none a c)
picked_has test n (arena ∷ arenas) a c = by (picked_has test (n + 1) arenas a) (test n arena) refl c
  where
    past : IsPicked test (n + 1) arenas a → IsPicked test n (arena ∷ arenas) a
    past r =
        let e = r.1 in
        let next : (n + 1) + r.0 ≡ n + suc r.0 = omega arith in (
          suc r.0,
          omega (arith, e),
          r.2,
          r.3,
          subst (λ m. test m r.2 ≡ true) next r.4,
        )

    by : (Contains (picked test (n + 1) arenas) a → IsPicked test (n + 1) arenas a) → (b : Bool) → test n arena ≡ b
        → Contains (if b then n ∷ picked test (n + 1) arenas else picked test (n + 1) arenas) a
        → IsPicked test n (arena ∷ arenas) a
    by rest true e d = elim (contains_cases n (picked test (n + 1) arenas) a d) [
      | inl same ↦ (
        0,
        (let start : n ≡ n + 0 = omega arith in sym same ∙ start),
        arena,
        refl,
        (let start : n ≡ n + 0 = omega arith in subst (λ m. test m arena ≡ true) start e),
      )
      | inr later ↦ past (rest later)
    ]
    by rest false e d = past (rest d)

pub has_picked : (test : ℕ → ArenaShape → Bool) (n : ℕ) (arenas : List ArenaShape) (i : ℕ) (arena : ArenaShape)
    → slice_get arenas i ≡ Some arena → test (n + i) arena ≡ true → Contains (picked test n arenas) (n + i)
has_picked test n [] i arena at is = absurd (cc at)
has_picked test n (other ∷ arenas) zero arena at is =
    let start : n + 0 ≡ n = omega arith in
    let here : other ≡ arena = cc at in
    let yes : test n other ≡ true =
    subst (λ m. test m other ≡ true) start
    (subst (λ x. test (n + 0) x ≡ true) (sym here) is) in
    subst (λ b. Contains (if b then n ∷ picked test (n + 1) arenas else picked test (n + 1) arenas) (n + 0)) (sym yes)
    (subst (λ m. Contains (n ∷ picked test (n + 1) arenas) m) (sym start)
    (contains_head n (picked test (n + 1) arenas)))
has_picked test n (other ∷ arenas) (suc i) arena at is =
    let next : n + suc i ≡ (n + 1) + i = omega arith in
    let rest : Contains (picked test (n + 1) arenas) (n + suc i) =
    subst (λ m. Contains (picked test (n + 1) arenas) m) (sym next)
    (has_picked test (n + 1) arenas i arena at (subst (λ m. test m arena ≡ true) next is)) in
    by (test n other) rest
  where
    by : (b : Bool) → Contains (picked test (n + 1) arenas) (n + suc i)
        → Contains (if b then n ∷ picked test (n + 1) arenas else picked test (n + 1) arenas) (n + suc i)
    by true rest = contains_tail n (picked test (n + 1) arenas) (n + suc i) rest
    by false rest = rest

module _ (zone first : ℕ) where
  -- those of the zone below a number, and from it on
  abbrev pub kept_of : ℕ → List ArenaShape → List ℕ
  kept_of n arenas = picked (is_below zone first) n arenas

  abbrev pub given_of : ℕ → List ArenaShape → List ℕ
  given_of n arenas = picked (is_from zone first) n arenas

  -- an arena is owned by the zone, or not
  owned_step : (z n : ℕ) (owner : List (Option ℕ)) → zone < 64
      → arenas_from n (owner_by z ∷ owner) (zone ∷ [])
      ≡ (if z == zone then n ∷ arenas_from (n + 1) owner (zone ∷ []) else arenas_from (n + 1) owner (zone ∷ []))
  owned_step z n owner small = by (nat_lt z no_zone) refl (z == zone) refl
    where
      by : (t : Bool) → nat_lt z no_zone ≡ t → (u : Bool) → (z == zone) ≡ u
          → arenas_from n ((if t then Some z else None) ∷ owner) (zone ∷ [])
          ≡ (if u then n ∷ arenas_from (n + 1) owner (zone ∷ []) else arenas_from (n + 1) owner (zone ∷ []))
      by true e true f = ap (λ b. if b || false then n ∷ arenas_from (n + 1) owner (zone ∷ [])
          else arenas_from (n + 1) owner (zone ∷ [])) f
      by true e false f = ap (λ b. if b || false then n ∷ arenas_from (n + 1) owner (zone ∷ [])
          else arenas_from (n + 1) owner (zone ∷ [])) f
      by false e true f = absurd (let far = ltb-false z no_zone e in let same = eqb-true z zone f in
          omega (arith, far, same, small))
      by false e false f = refl

  -- past the number none is kept
  none_kept : (n : ℕ) (arenas : List ArenaShape) → first ≤ n → kept_of n arenas ≡ []
  none_kept n [] past = refl
  none_kept n (arena ∷ arenas) past =
      ap (λ b. if b && (arena.zone == zone) then n ∷ kept_of (n + 1) arenas else kept_of (n + 1) arenas)
      (le-ltb n first past)
      ∙ none_kept (n + 1) arenas (omega (arith, past))

  -- the arenas of the zone are those that it keeps, and then those that it gives up
  pub split : (n : ℕ) (arenas : List ArenaShape) → zone < 64
      → arenas_from n (owners_of arenas) (zone ∷ []) ≡ kept_of n arenas ++ given_of n arenas
  split n [] small = refl
  split n (arena ∷ arenas) small =
      owned_step arena.zone n (owners_of arenas) small
      ∙ by (arenas_from (n + 1) (owners_of arenas) (zone ∷ [])) (split (n + 1) arenas small) (arena.zone == zone)
      (nat_lt n first) refl (nat_le first n) refl
    where
      by : (rest : List ℕ) → rest ≡ kept_of (n + 1) arenas ++ given_of (n + 1) arenas → (u t : Bool)
          → nat_lt n first ≡ t → (s : Bool) → nat_le first n ≡ s
          → (if u then n ∷ rest else rest)
          ≡ (if t && u then n ∷ kept_of (n + 1) arenas else kept_of (n + 1) arenas)
          ++ (if s && u then n ∷ given_of (n + 1) arenas else given_of (n + 1) arenas)
      by rest same true true e true f = absurd (let lt = ltb-true n first e in let le = leb-true first n f in
          omega (arith, lt, le))
      by rest same true true e false f = ap (λ (xs : List ℕ). n ∷ xs) same
      by rest same true false e true f =
          let le = ltb-false n first e in
          let none = none_kept (n + 1) arenas (omega (arith, le)) in
          ap (λ (xs : List ℕ). n ∷ xs) (same ∙ ap (λ (xs : List ℕ). xs ++ given_of (n + 1) arenas) none)
          ∙ ap (λ (xs : List ℕ). xs ++ (n ∷ given_of (n + 1) arenas)) (sym none)
      by rest same true false e false f = absurd (let le = ltb-false n first e in let lt = leb-false first n f in
          omega (arith, le, lt))
      by rest same false true e true f = same
      by rest same false true e false f = same
      by rest same false false e true f = same
      by rest same false false e false f = same

  -- so the owners are those that were, but for what is given up
  owners_given : (given : List ℕ) (n : ℕ) (arenas : List ArenaShape)
      → ((i : ℕ) (arena : ArenaShape) → slice_get arenas i ≡ Some arena
      → list_any (nat_eq (n + i)) given ≡ is_from zone first (n + i) arena)
      → map owner_by (zones_from zone first n arenas) ≡ given_up_from n (owners_of arenas) given
  owners_given given n [] same = refl
  owners_given given n (arena ∷ arenas) same =
      let start : n ≡ n + 0 = omega arith in
      let here : list_any (nat_eq n) given ≡ is_from zone first n arena =
      ap (λ m. list_any (nat_eq m) given) start
      ∙ (same 0 arena refl ∙ ap (λ m. is_from zone first m arena) (sym start)) in
      let next : suc n ≡ n + 1 = omega arith in
      let rest : map owner_by (zones_from zone first (suc n) arenas) ≡ given_up_from (n + 1) (owners_of arenas) given =
      ap (λ m. map owner_by (zones_from zone first m arenas)) next
      ∙ owners_given given (n + 1) arenas (λ i other at.
      let step : (n + 1) + i ≡ n + suc i = omega arith in
      ap (λ m. list_any (nat_eq m) given) step
      ∙ (same (suc i) other at ∙ ap (λ m. is_from zone first m other) (sym step))) in
      ap (λ (xs : List (Option ℕ)). owner_by (if is_from zone first n arena then no_zone else arena.zone) ∷ xs) rest
      ∙ (ap (λ (o : Option ℕ). o ∷ given_up_from (n + 1) (owners_of arenas) given)
      (one (is_from zone first n arena))
      ∙ ap (λ b. (if b then None else owner_by arena.zone) ∷ given_up_from (n + 1) (owners_of arenas) given)
      (sym here))
    where
      one : (b : Bool) → owner_by (if b then no_zone else arena.zone) ≡ (if b then None else owner_by arena.zone)
      one true = refl
      one false = refl

  pub owners_after : (arenas : List ArenaShape)
      → map owner_by (zones_from zone first 0 arenas) ≡ given_up_from 0 (owners_of arenas) (given_of 0 arenas)
  owners_after arenas = owners_given (given_of 0 arenas) 0 arenas given
    where
      given : (i : ℕ) (arena : ArenaShape) → slice_get arenas i ≡ Some arena
          → list_any (nat_eq (0 + i)) (given_of 0 arenas) ≡ is_from zone first (0 + i) arena
      given i arena at = by (is_from zone first (0 + i) arena) refl (list_any (nat_eq (0 + i)) (given_of 0 arenas)) refl
        where
          by : (b : Bool) → is_from zone first (0 + i) arena ≡ b → (t : Bool)
              → list_any (nat_eq (0 + i)) (given_of 0 arenas) ≡ t → t ≡ b
          by true e true f = refl
          by false e false f = refl
          by true e false f = absurd (let here = among_from (0 + i) (given_of 0 arenas)
              (has_picked (is_from zone first) 0 arenas i arena at e) in cc (here, f))
          by false e true f = absurd (let r = picked_has (is_from zone first) 0 arenas (0 + i)
              (among_to (0 + i) (given_of 0 arenas) f) in
              let number = r.1 in
              let same : i ≡ r.0 = omega (arith, number) in
              let found : slice_get arenas i ≡ Some r.2 = ap (slice_get arenas) same ∙ r.3 in
              let there : arena ≡ r.2 = cc (at, found) in
              let yes : is_from zone first (0 + i) arena ≡ true =
              ap (λ (m : ℕ). is_from zone first (0 + m) arena) same ∙ ap (is_from zone first (0 + r.0)) there ∙ r.4 in
              cc (yes, e))

  -- and there are as many of each as the heap counts
  pub kept_counted : (n : ℕ) (arenas : List ArenaShape) → length (kept_of n arenas) ≡ count_below zone first n arenas
  kept_counted n [] = refl
  kept_counted n (arena ∷ arenas) =
      let next : n + 1 ≡ suc n = omega arith in
      let rest : length (kept_of (n + 1) arenas) ≡ count_below zone first (suc n) arenas =
      kept_counted (n + 1) arenas ∙ ap (λ m. count_below zone first m arenas) next in
      by (is_below zone first n arena) rest
    where
      by : (b : Bool) → length (kept_of (n + 1) arenas) ≡ count_below zone first (suc n) arenas
          → length (if b then n ∷ kept_of (n + 1) arenas else kept_of (n + 1) arenas)
          ≡ (if b then 1 else 0) + count_below zone first (suc n) arenas
      by true rest = omega (arith, rest)
      by false rest = omega (arith, rest)

  pub given_counted : (n : ℕ) (arenas : List ArenaShape) → length (given_of n arenas) ≡ count_from zone first n arenas
  given_counted n [] = refl
  given_counted n (arena ∷ arenas) =
      let next : n + 1 ≡ suc n = omega arith in
      let rest : length (given_of (n + 1) arenas) ≡ count_from zone first (suc n) arenas =
      given_counted (n + 1) arenas ∙ ap (λ m. count_from zone first m arenas) next in
      by (is_from zone first n arena) rest
    where
      by : (b : Bool) → length (given_of (n + 1) arenas) ≡ count_from zone first (suc n) arenas
          → length (if b then n ∷ given_of (n + 1) arenas else given_of (n + 1) arenas)
          ≡ (if b then 1 else 0) + count_from zone first (suc n) arenas
      by true rest = omega (arith, rest)
      by false rest = omega (arith, rest)
