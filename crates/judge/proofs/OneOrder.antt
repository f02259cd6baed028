-- A list in a strict order is determined by what it has.
use Rattle.std.proofs.Common.{◌≡◌, ◌↔◌, ◌∙◌, inl, inr, List, [], ◌∷◌, Contains, IsTrue, refl, sym, ap, subst}
use Rattle.std.specs.Prelude.{⊤}
use Rattle.std.specs.Cmp.{IsTotalOrder}
use Rattle.std.specs.List.{AllByRecursion}
use Rattle.std.specs.Ordering.{is_lt, ordering_reverse}
use Rattle.std.specs.declared.cmp.Ordering.{Ordering}
use Rattle.std.specs.declared.cmp.Ordering.TheVariants.{Less, Equal, Greater}
use Rattle.colour_defs.proofs.Lists.{nothing_in_none, contains_head, contains_tail, contains_cases}

-- each comes before all behind it
abbrev pub Ascends : {X : Type 0} → (X → X → Ordering) → List X → Type 0
Ascends cmp [] = ⊤
Ascends cmp (x ∷ xs) = AllByRecursion (λ y. IsTrue (is_lt (cmp x y))) xs × Ascends cmp xs

module _ {X : Type 0} (cmp : X → X → Ordering) (total : IsTotalOrder cmp) where
  apart : (x y : X) → IsTrue (is_lt (cmp x y)) → IsTrue (is_lt (cmp y x)) → ⊥
  apart x y up down = go (cmp x y) (cmp y x) (total.antisymm x y) up down
    where
      go : (a b : Ordering) → a ≡ ordering_reverse b → IsTrue (is_lt a) → IsTrue (is_lt b) → ⊥
      go Less Less e up down = cc e
      go Less Equal e up down = cc down
      go Less Greater e up down = cc down
      go Equal b e up down = cc up
      go Greater b e up down = cc up

  later : (x y : X) (ys : List X) → AllByRecursion (λ z. IsTrue (is_lt (cmp x z))) ys → Contains ys y
      → IsTrue (is_lt (cmp x y))
  later x y [] all c = absurd (nothing_in_none y c)
  later x y (z ∷ zs) all c = elim (contains_cases z zs y c) [
    | inl e ↦ subst (λ n. IsTrue (is_lt (cmp x n))) e all.0
    | inr t ↦ later x y zs all.1 t
  ]

  first_same : (x y : X) (xs ys : List X) → Ascends cmp (x ∷ xs) → Ascends cmp (y ∷ ys)
      → ((z : X) → Contains (x ∷ xs) z ↔ Contains (y ∷ ys) z) → x ≡ y
  first_same x y xs ys up also same = elim (contains_cases y ys x ((same x).0 (contains_head x xs))) [
    | inl e ↦ sym e
    | inr after ↦ elim (contains_cases x xs y ((same y).1 (contains_head y ys))) [
      | inl e ↦ e
      | inr back ↦ absurd (apart x y (later x y xs up.0 back) (later y x ys also.0 after))
    ]
  ]

  rest_same : (x : X) (xs ys : List X) → Ascends cmp (x ∷ xs)
      → ((z : X) → Contains (x ∷ xs) z → Contains (x ∷ ys) z) → (z : X) → Contains xs z → Contains ys z
  rest_same x xs ys up same z c = elim (contains_cases x ys z (same z (contains_tail x xs z c))) [
    | inl e ↦ (
        let after = later x z xs up.0 c in
        let itself = subst (λ n. IsTrue (is_lt (cmp x n))) (sym e) after in
        absurd (apart x x itself itself))
    | inr t ↦ t
  ]

  pub one_order : (xs ys : List X) → Ascends cmp xs → Ascends cmp ys → ((z : X) → Contains xs z ↔ Contains ys z)
      → xs ≡ ys
  one_order [] [] up also same = refl
  one_order [] (y ∷ ys) up also same = absurd (nothing_in_none y ((same y).1 (contains_head y ys)))
  one_order (x ∷ xs) [] up also same = absurd (nothing_in_none x ((same x).0 (contains_head x xs)))
  one_order (x ∷ xs) (y ∷ ys) up also same =
      let first = first_same x y xs ys up also same in
      let here = subst (λ n. Ascends cmp (n ∷ ys)) (sym first) also in
      let both = subst (λ n. (z : X) → Contains (x ∷ xs) z ↔ Contains (n ∷ ys) z) (sym first) same in
      let rest = one_order xs ys up.1 also.1 (λ z. (
        rest_same x xs ys up (λ n. (both n).0) z,
        rest_same x ys xs here (λ n. (both n).1) z,
      )) in ap (λ n. n ∷ xs) first ∙ ap (λ ns. y ∷ ns) rest
