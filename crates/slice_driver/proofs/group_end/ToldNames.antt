-- The names of the watched cells that die with a group, as they are gathered one by one.
use Rattle.std.proofs.Common.{◌≡◌, ◌++◌, ◌+◌, ◌<◌, ◌≤◌, ℕ, suc, inl, inr, sym, ap, subst, ◌∙◌, arith, List, [], ◌∷◌}
use Rattle.std.proofs.Common.{length, Some, slice_get, Contains, false}
use Rattle.std.specs.List.{IsDistinct}
use Rattle.std.specs.List.Sorted.{IsPermutation, IsSorted}
use Rattle.std.proofs.lemmas.Bool.{cases_lt}
use Rattle.std.proofs.lemmas.List.Elements.{Contains-append_left, Contains-push, Contains-push_cases}
use Rattle.std.proofs.lemmas.Map.Keys.{apart_from_distinct}
use Rattle.std.proofs.lemmas.Option.{get_or_from_slice_get, slice_get_within}
use Rattle.gz_names.specs.Order.{name_cmp}
use Rattle.gz_names.specs.declared.names.Name.{Name}
use Rattle.gz_names.specs.declared.numbers.Place.{Place}
use Rattle.gz_names.proofs.Moving.{same-true}
use Rattle.weak_refs.specs.WeakNames.{is_same}
use Rattle.colour_defs.specs.Ends.{Lists}
use Rattle.colour_defs.proofs.Lists.{contains_at, contains_cases, nothing_in_none}
use Rattle.heap_core.specs.Shape.{name_at}
use Rattle.heap_core.specs.Heap.{HeapState}
use Rattle.slice_driver.specs.Told.{AreTold, IsLost, IsTold, IsToldBefore, TellsOf, kept, told}
use Rattle.slice_driver.proofs.abstraction.Named.{some_one}
use Rattle.slice_driver.proofs.basics.Sorted.{lists_from_sort}
use Rattle.slice_driver.proofs.group_end.Grays.{AreNamedApart, distinct_append, distinct_none, distinct_one}

-- what a list has stands at an index
at_contains : {X : Type 0} (xs : List X) (x : X) → Contains xs x → (k : ℕ) × (slice_get xs k ≡ Some x)
at_contains [] x has = absurd (nothing_in_none x has)
at_contains (y ∷ ys) x has = elim (contains_cases y ys x has) [
  | inl same ↦ (0, ap (λ z. Some z) same)
  | inr tail ↦ (let r = at_contains ys x tail in (suc r.0, r.1))
]

-- no place is watched twice
once_watched : (ps : List Place) (i n : ℕ) (p : Place) → IsDistinct is_same ps → i < n → slice_get ps i ≡ Some p
    → slice_get ps n ≡ Some p → ⊥
once_watched ps i n p distinct below first second =
    let at_first = get_or_from_slice_get ps i p p first in
    let at_second = get_or_from_slice_get ps n p p second in
    let apart = apart_from_distinct is_same ps i n p distinct below (slice_get_within ps n p second) in
    let other : is_same p p ≡ false = ap (λ q. is_same q p) (sym at_first)
    ∙ (ap (is_same _) (sym at_second) ∙ apart) in
    cc (other, same-true p)

-- no name stands at two places, and no place is watched twice
pub record AreWatchedApart (h : HeapState) : Type 0 where
  pub named : AreNamedApart h
  pub once : IsDistinct is_same h.weak_names.watched

module _ (h : HeapState) (zones : ℕ) where
  pub told_none : AreTold h zones 0 []
  told_none = record {
    has = λ x. (
      (λ has. absurd (nothing_in_none x has)),
      λ b. absurd (omega (arith, b.below)),
    );
    once = distinct_none;
  }

  later : (n : ℕ) (x : Name) → IsToldBefore h zones n x → IsToldBefore h zones (n + 1) x
  later n x b = record {
    index = b.index;
    below = omega (arith, b.below);
    place = b.place;
    watched = b.watched;
    named = b.named;
    lost = b.lost;
  }

  before : (n : ℕ) (x : Name) (b : IsToldBefore h zones (n + 1) x) → b.index < n → IsToldBefore h zones n x
  before n x b less = record {
    index = b.index;
    below = less;
    place = b.place;
    watched = b.watched;
    named = b.named;
    lost = b.lost;
  }

  module _ (n : ℕ) (p : Place) (at : slice_get h.weak_names.watched n ≡ Some p) where
    last_is : (x : Name) (b : IsToldBefore h zones (n + 1) x) → n ≤ b.index → b.place ≡ p
    last_is x b more =
        let same : b.index ≡ n = omega (arith, b.below, more) in
        some_one b.place p (sym b.watched ∙ (ap (slice_get h.weak_names.watched) same ∙ at))

    -- one cell more was looked at
    pub told_more : (old new : List Name) → AreWatchedApart h → AreTold h zones n old → TellsOf h zones p old new
        → AreTold h zones (n + 1) new
    told_more old new apart t (told x lost named is) = subst (AreTold h zones (n + 1)) (sym is) (record {
      has = λ y. (
        (λ has. elim (Contains-push_cases old x y has) [
          | inl was ↦ later n y ((t.has y).0 was)
          | inr same ↦ here y same
        ]),
        back y,
      );
      once = distinct_append old (x ∷ []) t.once (distinct_one x) fresh;
    })
      where
        here : (y : Name) → x ≡ y → IsToldBefore h zones (n + 1) y
        here y same = record {
          index = n;
          below = omega arith;
          place = p;
          watched = at;
          named = named ∙ ap (λ (z : Name). Some z) same;
          lost = lost;
        }

        back : (y : Name) → IsToldBefore h zones (n + 1) y → Contains (old ++ x ∷ []) y
        back y b = elim (cases_lt b.index n) [
          | inl less ↦ Contains-append_left old (x ∷ []) y ((t.has y).1 (before n y b less))
          | inr more ↦ (
              let same : x ≡ y = some_one x y (sym named
              ∙ (ap (name_at h.shape) (sym (last_is y b more)) ∙ b.named)) in
              subst (λ (z : Name). Contains (old ++ x ∷ []) z) same (Contains-push old x))
        ]

        fresh : (y : Name) → Contains old y → Contains (x ∷ []) y → ⊥
        fresh y was now = elim (contains_cases x [] y now) [
          | inl same ↦ (
              let b = (t.has y).0 was in
              let place_is : b.place ≡ p = apart.named b.place p y b.named (named ∙ ap (λ (z : Name). Some z) same) in
              once_watched h.weak_names.watched b.index n p apart.once b.below
              (b.watched ∙ ap (λ (q : Place). Some q) place_is) at)
          | inr none ↦ nothing_in_none y none
        ]
    told_more old new apart t (kept none is) = subst (AreTold h zones (n + 1)) (sym is) (record {
      has = λ y. (
        (λ has. later n y ((t.has y).0 has)),
        λ b. elim (cases_lt b.index n) [
          | inl less ↦ (t.has y).1 (before n y b less)
          | inr more ↦ absurd (none (subst (IsLost h zones) (last_is y b more) b.lost))
        ],
      );
      once = t.once;
    })

  -- all were looked at
  pub told_all : (xs ys : List Name) → AreTold h zones (length h.weak_names.watched) xs → IsPermutation xs ys
      → IsSorted name_cmp ys → Lists (IsTold h zones) ys
  told_all xs ys t moved sorted = lists_from_sort (IsTold h zones) xs ys (λ x. (
    (λ has. (let b = (t.has x).0 has in
        record {
          place = b.place;
          watched = contains_at h.weak_names.watched b.index b.place b.watched;
          named = b.named;
          here = b.lost.0;
          white = b.lost.1;
        })),
    λ i. (let k = at_contains h.weak_names.watched i.place i.watched in
        (t.has x).1 (record {
          index = k.0;
          below = slice_get_within h.weak_names.watched k.0 i.place k.1;
          place = i.place;
          watched = k.1;
          named = i.named;
          lost = (i.here, i.white);
        })),
  )) t.once moved sorted
