-- A list of exactly the names that meet a condition, ascending, is one.
use Rattle.std.proofs.Common.{◌≡◌, ◌∙◌, ◌↔◌, inl, inr, List, [], ◌∷◌, Contains, IsTrue, refl, sym, ap, subst}
use Rattle.std.specs.List.{AllByRecursion}
use Rattle.std.specs.Ordering.{is_lt, ordering_reverse}
use Rattle.std.specs.declared.cmp.Ordering.{Ordering}
use Rattle.std.specs.declared.cmp.Ordering.TheVariants.{Less, Equal, Greater}
use Rattle.gz_names.specs.declared.names.Name.{Name}
use Rattle.gz_names.specs.Order.{name_cmp, names_total}
use Rattle.colour_defs.specs.Ends.{IsAscending, Lists}
use Rattle.colour_defs.proofs.Lists.{nothing_in_none, contains_head, contains_tail, contains_cases}

-- of two names only one comes first
apart_names : (x y : Name) → IsTrue (is_lt (name_cmp x y)) → IsTrue (is_lt (name_cmp y x)) → ⊥
apart_names x y up down = go (name_cmp x y) (name_cmp y x) (names_total.antisymm x y) up down
  where
    go : (a b : Ordering) → a ≡ ordering_reverse b → IsTrue (is_lt a) → IsTrue (is_lt b) → ⊥
    go Less Less e up down = cc e
    go Less Equal e up down = cc down
    go Less Greater e up down = cc down
    go Equal b e up down = cc up
    go Greater b e up down = cc up

-- each later name comes after the first one
all_later : (x y : Name) (ys : List Name) → AllByRecursion (λ z. IsTrue (is_lt (name_cmp x z))) ys → Contains ys y
    → IsTrue (is_lt (name_cmp x y))
all_later x y [] all c = absurd (nothing_in_none y c)
all_later x y (z ∷ zs) all c = elim (contains_cases z zs y c) [
  | inl e ↦ subst (λ n. IsTrue (is_lt (name_cmp x n))) e all.0
  | inr t ↦ all_later x y zs all.1 t
]

-- both begin with the same name, since neither name comes after the other
same_first : (x y : Name) (xs ys : List Name) → IsAscending (x ∷ xs) → IsAscending (y ∷ ys)
    → ((z : Name) → Contains (x ∷ xs) z ↔ Contains (y ∷ ys) z) → x ≡ y
same_first x y xs ys up also same = elim (contains_cases y ys x ((same x).0 (contains_head x xs))) [
  | inl e ↦ sym e
  | inr later ↦ elim (contains_cases x xs y ((same y).1 (contains_head y ys))) [
    | inl e ↦ e
    | inr after ↦ absurd (apart_names x y (all_later x y xs up.0 after) (all_later y x ys also.0 later))
  ]
]

-- and go on with the same names
same_rest : (x : Name) (xs ys : List Name) → IsAscending (x ∷ xs)
    → ((z : Name) → Contains (x ∷ xs) z → Contains (x ∷ ys) z) → (z : Name) → Contains xs z → Contains ys z
same_rest x xs ys up same z c = elim (contains_cases x ys z (same z (contains_tail x xs z c))) [
  | inl e ↦ (
      let after = all_later x z xs up.0 c in
      let itself = subst (λ n. IsTrue (is_lt (name_cmp x n))) (sym e) after in
      absurd (apart_names x x itself itself))
  | inr t ↦ t
]

same_list : (xs ys : List Name) → IsAscending xs → IsAscending ys → ((z : Name) → Contains xs z ↔ Contains ys z)
    → xs ≡ ys
same_list [] [] up also same = refl
same_list [] (y ∷ ys) up also same = absurd (nothing_in_none y ((same y).1 (contains_head y ys)))
same_list (x ∷ xs) [] up also same = absurd (nothing_in_none x ((same x).0 (contains_head x xs)))
same_list (x ∷ xs) (y ∷ ys) up also same =
    let first = same_first x y xs ys up also same in
    let here = subst (λ n. IsAscending (n ∷ ys)) (sym first) also in
    let both = subst (λ n. (z : Name) → Contains (x ∷ xs) z ↔ Contains (n ∷ ys) z) (sym first) same in
    let rest = same_list xs ys up.1 also.1 (λ z. (
      same_rest x xs ys up (λ n. (both n).0) z,
      same_rest x ys xs here (λ n. (both n).1) z,
    )) in ap (λ n. n ∷ xs) first ∙ ap (λ ns. y ∷ ns) rest

pub one_list : (P : Name → Type 0) (xs ys : List Name) → Lists P xs → Lists P ys → xs ≡ ys
one_list P xs ys l m = same_list xs ys l.ascending m.ascending
    (λ z. (λ c. (m.has z).1 ((l.has z).0 c), λ c. (l.has z).1 ((m.has z).0 c)))
