-- Ascending lists of numbers: two with the same numbers are one.
use Rattle.std.proofs.Common.{◌≡◌, ◌↔◌, ◌∙◌, inl, inr, ℕ, ◌<◌, Bool, true, false, not, cond, List, [], ◌∷◌, Contains}
use Rattle.std.proofs.Common.{refl, sym, ap, subst, arith}
use Rattle.std.specs.Prelude.{nat_eq}
use Rattle.std.specs.List.{AllByRecursion, filter, list_any}
use Rattle.gz_names.specs.Zones.{HasZone, zones_in}
use Rattle.gz_names.specs.declared.zone_sets.ZoneSet.{ZoneSet}
use Rattle.colour_defs.specs.Ends.{zones_without}
use Rattle.colour_defs.specs.Groups.{AreAscending}
use Rattle.colour_defs.proofs.Lists.{contains_cases, contains_head, contains_tail, nothing_in_none}
use Rattle.colour_defs.proofs.Membership.{among_from, among_to, without_has, without_was}
use Rattle.colour_defs.proofs.ZoneSets.{zones_in-ascending, zones_in-has}
use Rattle.judge.specs.Stages.{AreWithout}

later : (x y : ℕ) (ys : List ℕ) → AllByRecursion (λ z. x < z) ys → Contains ys y → x < y
later x y [] all c = absurd (nothing_in_none y c)
later x y (z ∷ zs) all c = elim (contains_cases z zs y c) [
  | inl e ↦ subst (λ n. x < n) e all.0
  | inr t ↦ later x y zs all.1 t
]

first_same : (x y : ℕ) (xs ys : List ℕ) → AreAscending (x ∷ xs) → AreAscending (y ∷ ys)
    → ((z : ℕ) → Contains (x ∷ xs) z ↔ Contains (y ∷ ys) z) → x ≡ y
first_same x y xs ys up also same = elim (contains_cases y ys x ((same x).0 (contains_head x xs))) [
  | inl e ↦ sym e
  | inr after ↦ elim (contains_cases x xs y ((same y).1 (contains_head y ys))) [
    | inl e ↦ e
    | inr back ↦ (let a = later y x ys also.0 after in let b = later x y xs up.0 back in absurd (omega (arith, a, b)))
  ]
]

rest_same : (x : ℕ) (xs ys : List ℕ) → AreAscending (x ∷ xs)
    → ((z : ℕ) → Contains (x ∷ xs) z → Contains (x ∷ ys) z) → (z : ℕ) → Contains xs z → Contains ys z
rest_same x xs ys up same z c = elim (contains_cases x ys z (same z (contains_tail x xs z c))) [
  | inl e ↦ (let a = later x z xs up.0 c in absurd (omega (arith, a, e)))
  | inr t ↦ t
]

pub same_numbers : (xs ys : List ℕ) → AreAscending xs → AreAscending ys → ((z : ℕ) → Contains xs z ↔ Contains ys z)
    → xs ≡ ys
same_numbers [] [] up also same = refl
same_numbers [] (y ∷ ys) up also same = absurd (nothing_in_none y ((same y).1 (contains_head y ys)))
same_numbers (x ∷ xs) [] up also same = absurd (nothing_in_none x ((same x).0 (contains_head x xs)))
same_numbers (x ∷ xs) (y ∷ ys) up also same =
    let first = first_same x y xs ys up also same in
    let here = subst (λ n. AreAscending (n ∷ ys)) (sym first) also in
    let both = subst (λ n. (z : ℕ) → Contains (x ∷ xs) z ↔ Contains (n ∷ ys) z) (sym first) same in
    let rest = same_numbers xs ys up.1 also.1 (λ z. (
      rest_same x xs ys up (λ n. (both n).0) z,
      rest_same x ys xs here (λ n. (both n).1) z,
    )) in ap (λ n. n ∷ xs) first ∙ ap (λ ns. y ∷ ns) rest

later_left : (f : ℕ → Bool) (x : ℕ) (xs : List ℕ) → AllByRecursion (λ y. x < y) xs
    → AllByRecursion (λ y. x < y) (filter f xs)
later_left f x [] all = tt
later_left f x (y ∷ ys) all = go (f y) (later_left f x ys all.1)
  where
    go : (b : Bool) → AllByRecursion (λ y. x < y) (filter f ys)
        → AllByRecursion (λ y. x < y) (cond b (y ∷ filter f ys) (filter f ys))
    go true rest = (all.0, rest)
    go false rest = rest

ascending_left : (f : ℕ → Bool) (xs : List ℕ) → AreAscending xs → AreAscending (filter f xs)
ascending_left f [] up = tt
ascending_left f (x ∷ xs) up = go (f x) (ascending_left f xs up.1)
  where
    go : (b : Bool) → AreAscending (filter f xs) → AreAscending (cond b (x ∷ filter f xs) (filter f xs))
    go true rest = (later_left f x xs up.0, rest)
    go false rest = rest

-- two sets with the same zones have one list
pub same_zones : (a b : ZoneSet) → ((z : ℕ) → HasZone a.bits z ↔ HasZone b.bits z) → zones_in a ≡ zones_in b
same_zones a b same = same_numbers (zones_in a) (zones_in b) (zones_in-ascending a) (zones_in-ascending b) (λ z. (
  λ c. (zones_in-has b z).1 ((same z).0 ((zones_in-has a z).0 c)),
  λ c. (zones_in-has a z).1 ((same z).1 ((zones_in-has b z).0 c)),
))

-- the zones of a set without those of another
pub without_is : (zones group rest : ZoneSet) → AreWithout zones group rest
    → zones_without (zones_in zones) (zones_in group) ≡ zones_in rest
without_is zones group rest are =
    same_numbers (zones_without (zones_in zones) (zones_in group)) (zones_in rest)
    (ascending_left (λ z. not (list_any (nat_eq z) (zones_in group))) (zones_in zones) (zones_in-ascending zones))
    (zones_in-ascending rest) (λ z. (to z, back z))
  where
    to : (z : ℕ) → Contains (zones_without (zones_in zones) (zones_in group)) z → Contains (zones_in rest) z
    to z c =
        let was = without_was (zones_in zones) (zones_in group) z c in
        (zones_in-has rest z).1 ((are z).1 (
          (zones_in-has zones z).0 was.0,
          λ h.
              let in_group = among_from z (zones_in group) ((zones_in-has group z).1 h) in cc (was.1, in_group),
        ))

    back : (z : ℕ) → Contains (zones_in rest) z → Contains (zones_without (zones_in zones) (zones_in group)) z
    back z c =
        let has = (are z).0 ((zones_in-has rest z).0 c) in
        without_has (zones_in zones) (zones_in group) z ((zones_in-has zones z).1 has.0)
        (go (list_any (nat_eq z) (zones_in group)) refl has.1)
      where
        go : (b : Bool) → list_any (nat_eq z) (zones_in group) ≡ b → (HasZone group.bits z → ⊥) → b ≡ false
        go true e none = absurd (none ((zones_in-has group z).0 (among_to z (zones_in group) e)))
        go false e none = refl
