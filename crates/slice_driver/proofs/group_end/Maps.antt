-- Maps and sets of names as lists, and lists by tests on places.
use Rattle.std.proofs.Common.{◌≡◌, ◌↔◌, ◌&&◌, Bool, true, false, cond, T, inl, inr, refl, sym, ap, ◌∙◌, subst, Some}
use Rattle.std.proofs.Common.{List, [], ◌∷◌, Contains}
use Rattle.std.specs.FinMap as map
use Rattle.std.specs.FinMap.Entries.{below_all, find, is_sorted}
use Rattle.std.specs.FinSet as set
use Rattle.std.specs.Cmp.{tied_itself}
use Rattle.std.specs.Ordering.{eq_by_cmp, is_lt}
use Rattle.gz_names.specs.declared.names.Name.{Name}
use Rattle.gz_names.specs.declared.numbers.Place.{Place}
use Rattle.gz_names.specs.Order.{name_cmp, names_total}
use Rattle.colour_defs.specs.World.{Names}
use Rattle.colour_defs.proofs.Finite.{Members, members_empty, members_insert}
use Rattle.colour_defs.proofs.Lists.{contains_cases, contains_head, contains_tail, nothing_in_none}
use Rattle.colour_defs.proofs.Names.{eq_name-is, eq_name-refl}

from_both : (a b : Bool) → T (a && b) → T a × T b
from_both true b t = (tt, t)
from_both false b t = absurd t

found_listed : (x : Name) (p : Place) (es : List (Name × Place)) → find name_cmp x es ≡ Some p
    → Contains {X = Name × Place} es (x, p)
found_listed x p [] e = absurd (cc e)
found_listed x p (y ∷ es) e = go (λ f. found_listed x p es f) (eq_by_cmp name_cmp x y.0) refl e
  where
    go : (find name_cmp x es ≡ Some p → Contains {X = Name × Place} es (x, p)) → (t : Bool)
        → eq_by_cmp name_cmp x y.0 ≡ t → cond t (Some y.1) (find name_cmp x es) ≡ Some p
        → Contains {X = Name × Place} (y ∷ es) (x, p)
    go rest true t f =
        let name : y.0 ≡ x = sym (eq_name-is x y.0 t) in
        let place : y.1 ≡ p = cc f in
        subst (λ (z : Name × Place). Contains {X = Name × Place} (y ∷ es) z) (λ i. (name i, place i))
        (contains_head {X = Name × Place} y es)
    go rest false t f = contains_tail {X = Name × Place} y es (x, p) (rest f)

below_listed : (x : Name) (es : List (Name × Place)) (y : Name) (p : Place) → T (below_all name_cmp x es)
    → Contains {X = Name × Place} es (y, p) → T (is_lt (name_cmp x y))
below_listed x [] y p t c = absurd (nothing_in_none _ c)
below_listed x (e ∷ es) y p t c =
    let both = from_both _ _ t in
    elim (contains_cases {X = Name × Place} e es (y, p) c) [
      | inl same ↦ subst (λ (z : Name × Place). T (is_lt (name_cmp x z.0))) same both.0
      | inr tail ↦ below_listed x es y p both.1 tail
    ]

-- a name isn't below itself
apart : (x y : Name) → T (is_lt (name_cmp x y)) → eq_by_cmp name_cmp y x ≡ true → ⊥
apart x y lt e =
    let same : y ≡ x = eq_name-is y x e in
    let at : T (is_lt (name_cmp x x)) = subst (λ z. T (is_lt (name_cmp x z))) same lt in
    subst T (ap is_lt (tied_itself names_total x)) at

listed_found : (x : Name) (p : Place) (es : List (Name × Place)) → T (is_sorted name_cmp es)
    → Contains {X = Name × Place} es (x, p) → find name_cmp x es ≡ Some p
listed_found x p [] t c = absurd (nothing_in_none _ c)
listed_found x p (y ∷ es) t c = elim (contains_cases {X = Name × Place} y es (x, p) c) [
  | inl same ↦ ap (λ b. cond b (Some y.1) (find name_cmp x es))
      (ap (λ (z : Name × Place). eq_by_cmp name_cmp x z.0) same ∙ eq_name-refl x)
      ∙ ap (λ (z : Name × Place). Some z.1) same
  | inr tail ↦ go (eq_by_cmp name_cmp x y.0) refl (below_listed y.0 es x p (from_both _ _ t).0 tail)
      (listed_found x p es (from_both _ _ t).1 tail)
]
  where
    go : (b : Bool) → eq_by_cmp name_cmp x y.0 ≡ b → T (is_lt (name_cmp y.0 x)) → find name_cmp x es ≡ Some p
        → cond (eq_by_cmp name_cmp x y.0) (Some y.1) (find name_cmp x es) ≡ Some p
    go true e lt f = absurd (apart y.0 x lt e)
    go false e lt f = ap (λ b. cond b (Some y.1) (find name_cmp x es)) e ∙ f

-- the entries of a map are what it answers
pub entries_are : (m : map.FinMap name_cmp Place) (x : Name) (p : Place)
    → Contains {X = Name × Place} (map.entries m) (x, p) ↔ (map.get m x ≡ Some p)
entries_are m x p = (
  λ c. map.get-entries m x ∙ listed_found x p (map.entries m) (map.entries_sorted m) c,
  λ e. found_listed x p (map.entries m) (sym (map.get-entries m x) ∙ e),
)

-- those whose places pass a test, and their names
pub placed_by : (Place → Bool) → List (Name × Place) → List (Name × Place)
placed_by test [] = []
placed_by test (e ∷ es) = cond (test e.1) (e ∷ placed_by test es) (placed_by test es)

pub named_by : (Place → Bool) → List (Name × Place) → List Name
named_by test [] = []
named_by test (e ∷ es) = cond (test e.1) (e.0 ∷ named_by test es) (named_by test es)

pub placed_by_has : (test : Place → Bool) (es : List (Name × Place)) (x : Name) (p : Place)
    → Contains {X = Name × Place} (placed_by test es) (x, p) → Contains {X = Name × Place} es (x, p) × (test p ≡ true)
unfolding placed_by
placed_by_has test [] x p c = absurd (nothing_in_none _ c)
placed_by_has test (e ∷ es) x p c = go (λ k. placed_by_has test es x p k) (test e.1) refl c
  where
    go : (Contains {X = Name × Place} (placed_by test es) (x, p) → Contains {X = Name × Place} es (x, p)
        × (test p ≡ true)) → (t : Bool) → test e.1 ≡ t
        → Contains {X = Name × Place} (cond t (e ∷ placed_by test es) (placed_by test es)) (x, p)
        → Contains {X = Name × Place} (e ∷ es) (x, p) × (test p ≡ true)
    go rest true t c = elim (contains_cases {X = Name × Place} e (placed_by test es) (x, p) c) [
      | inl same ↦ (
        subst (λ (z : Name × Place). Contains {X = Name × Place} (e ∷ es) z) same
            (contains_head {X = Name × Place} e es),
        ap (λ (z : Name × Place). test z.1) (sym same) ∙ t,
      )
      | inr tail ↦ (let r = rest tail in (contains_tail {X = Name × Place} e es (x, p) r.0, r.1))
    ]
    go rest false t c = (let r = rest c in (contains_tail {X = Name × Place} e es (x, p) r.0, r.1))

pub has_placed_by : (test : Place → Bool) (es : List (Name × Place)) (x : Name) (p : Place)
    → Contains {X = Name × Place} es (x, p) → test p ≡ true → Contains {X = Name × Place} (placed_by test es) (x, p)
unfolding placed_by
has_placed_by test [] x p c t = absurd (nothing_in_none _ c)
has_placed_by test (e ∷ es) x p c t = elim (contains_cases {X = Name × Place} e es (x, p) c) [
  | inl same ↦ head (test e.1) (ap (λ (z : Name × Place). test z.1) same ∙ t) same
  | inr tail ↦ rest (test e.1) (has_placed_by test es x p tail t)
]
  where
    head : (b : Bool) → b ≡ true → e ≡ (x, p)
        → Contains {X = Name × Place} (cond b (e ∷ placed_by test es) (placed_by test es)) (x, p)
    head true is same = subst (λ (z : Name × Place). Contains {X = Name × Place} (e ∷ placed_by test es) z) same
        (contains_head {X = Name × Place} e (placed_by test es))
    head false is same = absurd (cc is)

    rest : (b : Bool) → Contains {X = Name × Place} (placed_by test es) (x, p)
        → Contains {X = Name × Place} (cond b (e ∷ placed_by test es) (placed_by test es)) (x, p)
    rest true k = contains_tail {X = Name × Place} e (placed_by test es) (x, p) k
    rest false k = k

pub named_by_has : (test : Place → Bool) (es : List (Name × Place)) (x : Name) → Contains (named_by test es) x
    → (p : Place) × Contains {X = Name × Place} es (x, p) × (test p ≡ true)
unfolding named_by
named_by_has test [] x c = absurd (nothing_in_none _ c)
named_by_has test (e ∷ es) x c = go (λ k. named_by_has test es x k) (test e.1) refl c
  where
    go : (Contains (named_by test es) x → (p : Place) × Contains {X = Name × Place} es (x, p) × (test p ≡ true))
        → (t : Bool) → test e.1 ≡ t → Contains (cond t (e.0 ∷ named_by test es) (named_by test es)) x
        → (p : Place) × Contains {X = Name × Place} (e ∷ es) (x, p) × (test p ≡ true)
    go rest true t c = elim (contains_cases e.0 (named_by test es) x c) [
      | inl same ↦ (
        e.1,
        subst (λ z. Contains {X = Name × Place} (e ∷ es) (z, e.1)) same
            (contains_head {X = Name × Place} e es),
        t,
      )
      | inr tail ↦ (let r = rest tail in (r.0, contains_tail {X = Name × Place} e es (x, r.0) r.1, r.2))
    ]
    go rest false t c = (let r = rest c in (r.0, contains_tail {X = Name × Place} e es (x, r.0) r.1, r.2))

pub has_named_by : (test : Place → Bool) (es : List (Name × Place)) (x : Name) (p : Place)
    → Contains {X = Name × Place} es (x, p) → test p ≡ true → Contains (named_by test es) x
unfolding named_by
has_named_by test [] x p c t = absurd (nothing_in_none _ c)
has_named_by test (e ∷ es) x p c t = elim (contains_cases {X = Name × Place} e es (x, p) c) [
  | inl same ↦ head (test e.1) (ap (λ (z : Name × Place). test z.1) same ∙ t) same
  | inr tail ↦ rest (test e.1) (has_named_by test es x p tail t)
]
  where
    head : (b : Bool) → b ≡ true → e ≡ (x, p) → Contains (cond b (e.0 ∷ named_by test es) (named_by test es)) x
    head true is same = subst (λ (z : Name × Place). Contains (e.0 ∷ named_by test es) z.0) same
        (contains_head e.0 (named_by test es))
    head false is same = absurd (cc is)

    rest : (b : Bool) → Contains (named_by test es) x → Contains (cond b (e.0 ∷ named_by test es) (named_by test es)) x
    rest true k = contains_tail e.0 (named_by test es) x k
    rest false k = k

-- a set of the names of a list
pub set_of : List Name → Names
set_of [] = set.empty
set_of (x ∷ xs) = set.insert (set_of xs) x

pub set_of_has : (xs : List Name) → Members (set_of xs) xs
unfolding set_of
set_of_has [] = members_empty
set_of_has (x ∷ xs) = members_insert (set_of xs) xs x (set_of_has xs)
