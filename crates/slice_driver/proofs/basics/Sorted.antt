-- Sorted names of which no two are the same ascend.
use Rattle.std.proofs.Common.{◌≡◌, ◌↔◌, Contains, ℕ, suc, ◌+◌, ◌<◌, Bool, true, false, List, [], ◌∷◌, length, get_or}
use Rattle.std.proofs.Common.{refl, ap, sym, ◌∙◌, subst, arith, IsTrue}
use Rattle.std.specs.List.{IsDistinct, AllByRecursion}
use Rattle.std.specs.List.Sorted.{IsPermutation, IsSorted}
use Rattle.std.specs.declared.cmp.Ordering.{Ordering}
use Rattle.std.specs.declared.cmp.Ordering.TheVariants.{Less, Equal, Greater}
use Rattle.std.specs.Ordering.{is_lt, ordering_reverse}
use Rattle.std.proofs.lemmas.List.Sorted.{Contains-permutation, IsPermutation-sym, sorted_far}
use Rattle.std.proofs.lemmas.List.MinMax.{ranks_by}
use Rattle.std.proofs.lemmas.Map.Keys.{IsDistinct-IsPermutation}
use Rattle.gz_names.specs.declared.names.Name.{Name}
use Rattle.gz_names.specs.Order.{name_cmp, names_total, same_name}
use Rattle.colour_defs.specs.Ends.{IsAscending, Lists}
use Rattle.colour_defs.proofs.Names.{names_apart, same_name-refl, same_name-is}

differ : (b : Bool) → b ≡ false → b ≡ true → ⊥
differ b f t = cc (f, t)

flips : (x y : Name) → same_name x y ≡ same_name y x
flips x y = by (same_name x y) (same_name y x) refl refl
  where
    by : (a b : Bool) → same_name x y ≡ a → same_name y x ≡ b → same_name x y ≡ same_name y x
    by true true e f = e ∙ sym f
    by false false e f = e ∙ sym f
    by true false e f = absurd
        (differ (same_name y x) f (ap (λ (z : Name). same_name z x) (sym (same_name-is x y e)) ∙ same_name-refl x))
    by false true e f = absurd
        (differ (same_name x y) e (ap (λ (z : Name). same_name z y) (sym (same_name-is y x f)) ∙ same_name-refl y))

by_order : (x y : Name) (o : Ordering) → name_cmp x y ≡ o → is_lt (name_cmp y x) ≡ false → same_name x y ≡ false
    → is_lt o ≡ true
by_order x y Less e later other = refl
by_order x y Equal e later other =
    absurd (differ (same_name x y) other (ap (λ (z : Name). same_name x z) (sym (names_apart x y e))
    ∙ same_name-refl x))
by_order x y Greater e later other =
    absurd (differ (is_lt (name_cmp y x)) later
    (ap is_lt (names_total.antisymm y x) ∙ ap (λ (o : Ordering). is_lt (ordering_reverse o)) e))

below_all : (x : Name) (ys : List Name)
    → ((k : ℕ) (d : Name) → k < length ys → is_lt (name_cmp (get_or ys k d) x) ≡ false)
    → AllByRecursion (λ y. same_name x y ≡ false) ys → AllByRecursion (λ y. IsTrue (is_lt (name_cmp x y))) ys
below_all x [] up other = tt
below_all x (y ∷ ys) up other = (
  by_order x y (name_cmp x y) refl (up 0 y (omega arith)) other.0,
  below_all x ys (λ k d lt. up (suc k) d (omega arith)) other.1,
)

tail_sorted : (x : Name) (xs : List Name) → IsSorted name_cmp (x ∷ xs) → IsSorted name_cmp xs
tail_sorted x xs up =
    λ k d from below. subst (λ (j : ℕ). is_lt (name_cmp (get_or (x ∷ xs) j d) (get_or xs k d)) ≡ false)
    (let e : suc k + 1 ≡ suc (k + 1) = omega arith in e) (up (suc k) d (omega arith) (omega arith))

ascends : (xs : List Name) → IsSorted name_cmp xs → IsDistinct same_name xs → IsAscending xs
unfolding IsDistinct
ascends [] up other = tt
ascends (x ∷ xs) up other = (
  below_all x xs (λ k d lt. sorted_far (λ a b. is_lt (name_cmp a b)) (ranks_by names_total (λ (y : Name). y)) (x ∷ xs)
      up 0 (suc k) d (omega arith) (omega arith)) other.0,
  ascends xs (tail_sorted x xs up) other.1,
)

pub ascending_from_sort : (xs ys : List Name) → IsPermutation xs ys → IsSorted name_cmp ys → IsDistinct same_name xs
    → IsAscending ys
ascending_from_sort xs ys moved up other = ascends ys up (IsDistinct-IsPermutation same_name flips xs ys moved other)

-- a list of exactly the names that meet P, none of them twice, is sorted
pub lists_from_sort : (P : Name → Type 0) (xs ys : List Name) → ((x : Name) → Contains xs x ↔ P x)
    → IsDistinct same_name xs → IsPermutation xs ys → IsSorted name_cmp ys → Lists P ys
lists_from_sort P xs ys has other moved up = record {
  ascending = ascending_from_sort xs ys moved up other;
  has = λ x. (
    (λ c. (has x).0 (Contains-permutation ys xs x (IsPermutation-sym xs ys moved) c)),
    λ p. Contains-permutation xs ys x moved ((has x).1 p),
  );
}
