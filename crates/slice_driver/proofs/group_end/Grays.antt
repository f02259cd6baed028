-- The names of gray cells, listed arena by arena and slot by slot: all of them, and none twice.
use Rattle.std.proofs.Common.{◌≡◌, ◌↔◌, ◌<◌, ◌++◌, ◌+◌, ℕ, zero, suc, Bool, true, false, List, [], ◌∷◌, Option, Some}
use Rattle.std.proofs.Common.{None, Contains, refl, sym, ap, subst, ◌∙◌, inl, inr, arith}
use Rattle.std.specs.List.{AllByRecursion, IsDistinct}
use Rattle.std.specs.List.Sorted.{IsPermutation, IsSorted}
use Rattle.std.specs.Prelude.{if◌then◌else◌}
use Rattle.std.proofs.lemmas.List.Elements.{Contains-append_cases, Contains-append_left, Contains-append_right}
use Rattle.gz_names.specs.Order.{name_cmp, same_name}
use Rattle.gz_names.specs.declared.names.Name.{Name}
use Rattle.gz_names.specs.declared.numbers.Place.{Place}
use Rattle.cell_bits.specs.declared.bits.Colour.{Colour}
use Rattle.cell_bits.specs.declared.bits.Colour.TheVariants as colour
use Rattle.colour_defs.specs.Ends.{Lists}
use Rattle.colour_defs.proofs.Lists.{contains_cases, contains_head, contains_tail, nothing_in_none}
use Rattle.colour_defs.proofs.Names.{same_name-is}
use Rattle.heap_core.specs.Shape.{name_at}
use Rattle.heap_core.specs.Heap.{HeapState, colour_of}
use Rattle.barriers.specs.Colours.{IsGray}
use Rattle.slice_driver.specs.Grays.{IsGrayIn, gray_name, grays_below, grays_up_to, is_gray_colour, names_in}
use Rattle.slice_driver.proofs.basics.Sorted.{lists_from_sort}

gray_is : (c : Colour) → is_gray_colour c ≡ true → c ≡ colour.Gray
gray_is colour.White e = absurd (cc e)
gray_is colour.Gray e = refl
gray_is colour.Black e = absurd (cc e)

not_true : (b : Bool) → (b ≡ true → ⊥) → b ≡ false
not_true true h = absurd (h refl)
not_true false h = refl

-- one slot more
pub gray_pushed : (h : HeapState) (p : Place) (x : Name) → IsGray h p → name_at h.shape p ≡ Some x
    → gray_name h p ≡ x ∷ []
gray_pushed h p x gray named = ap (λ c. if is_gray_colour c then names_in (name_at h.shape p) else []) gray
    ∙ ap names_in named

listed_gray : (h : HeapState) (p : Place) (x : Name) → Contains (gray_name h p) x
    → IsGray h p × (name_at h.shape p ≡ Some x)
listed_gray h p x c = go (is_gray_colour (colour_of h p)) refl c
  where
    named : (o : Option Name) → name_at h.shape p ≡ o → Contains (names_in o) x → name_at h.shape p ≡ Some x
    named None e c = absurd (nothing_in_none x c)
    named (Some y) e c =
        elim (contains_cases y [] x c) [ inl is ↦ e ∙ ap (λ z. Some z) is | inr none ↦ absurd (nothing_in_none x none) ]

    go : (b : Bool) → is_gray_colour (colour_of h p) ≡ b → Contains (if b then names_in (name_at h.shape p) else []) x
        → IsGray h p × (name_at h.shape p ≡ Some x)
    go true e c = (gray_is (colour_of h p) e, named (name_at h.shape p) refl c)
    go false e c = absurd (nothing_in_none x c)

gray_listed : (h : HeapState) (p : Place) (x : Name) → IsGray h p → name_at h.shape p ≡ Some x
    → Contains (gray_name h p) x
gray_listed h p x gray named = subst (λ xs. Contains xs x) (sym (gray_pushed h p x gray named)) (contains_head x [])

-- the slots of an arena
pub below_listed : (h : HeapState) (a n : ℕ) (x : Name) → Contains (grays_below h a n) x → (slot : ℕ) × (slot < n)
    × IsGray h (a, slot) × (name_at h.shape (a, slot) ≡ Some x)
below_listed h a zero x c = absurd (nothing_in_none x c)
below_listed h a (suc n) x c = elim (Contains-append_cases (grays_below h a n) (gray_name h (a, n)) x c) [
  | inl early ↦ (let r = below_listed h a n x early in (r.0, omega (arith, r.1), r.2, r.3))
  | inr last ↦ (let r = listed_gray h (a, n) x last in (n, omega arith, r.0, r.1))
]

pub listed_below : (h : HeapState) (a n slot : ℕ) (x : Name) → slot < n → IsGray h (a, slot)
    → name_at h.shape (a, slot) ≡ Some x → Contains (grays_below h a n) x
listed_below h a zero slot x lt gray named = absurd (omega (arith, lt))
listed_below h a (suc n) slot x lt gray named = elim (Rattle.std.proofs.lemmas.Bool.cases_lt slot n) [
  | inl less ↦ Contains-append_left (grays_below h a n) (gray_name h (a, n)) x
      (listed_below h a n slot x less gray named)
  | inr more ↦ (let is : slot ≡ n = omega (arith, lt, more) in
      Contains-append_right (grays_below h a n) (gray_name h (a, n)) x
      (gray_listed h (a, n) x (subst (λ i. IsGray h (a, i)) is gray)
      (subst (λ i. name_at h.shape (a, i) ≡ Some x) is named)))
]

-- the arenas that pass a test
module _ (h : HeapState) (test : ℕ → Bool) where
  taken : (a : ℕ) (x : Name) → Contains (if test a then grays_below h a 64 else []) x
      → (test a ≡ true) × Contains (grays_below h a 64) x
  taken a x c = go (test a) refl c
    where
      go : (b : Bool) → test a ≡ b → Contains (if b then grays_below h a 64 else []) x
          → (test a ≡ true) × Contains (grays_below h a 64) x
      go true e c = (e, c)
      go false e c = absurd (nothing_in_none x c)

  pub up_to_listed : (n : ℕ) (x : Name) → Contains (grays_up_to h test n) x → (p : Place) × (p.0 < n)
      × (test p.0 ≡ true) × IsGray h p × (name_at h.shape p ≡ Some x)
  up_to_listed zero x c = absurd (nothing_in_none x c)
  up_to_listed (suc n) x c =
      elim (Contains-append_cases (grays_up_to h test n) (if test n then grays_below h n 64 else []) x c) [
        | inl early ↦ (let r = up_to_listed n x early in (r.0, omega (arith, r.1), r.2, r.3, r.4))
        | inr last ↦ (let t = taken n x last in let r = below_listed h n 64 x t.1 in
            ((n, r.0), omega arith, t.0, r.2, r.3))
      ]

  pub listed_up_to : (n : ℕ) (p : Place) (x : Name) → p.0 < n → p.1 < 64 → test p.0 ≡ true → IsGray h p
      → name_at h.shape p ≡ Some x → Contains (grays_up_to h test n) x
  listed_up_to zero p x lt slot passes gray named = absurd (omega (arith, lt))
  listed_up_to (suc n) p x lt slot passes gray named = elim (Rattle.std.proofs.lemmas.Bool.cases_lt p.0 n) [
    | inl less ↦ Contains-append_left (grays_up_to h test n) (if test n then grays_below h n 64 else []) x
        (listed_up_to n p x less slot passes gray named)
    | inr more ↦ (
        let is : p.0 ≡ n = omega (arith, lt, more) in
        let here : Contains (grays_below h p.0 64) x = listed_below h p.0 64 p.1 x slot gray named in
        Contains-append_right (grays_up_to h test n) (if test n then grays_below h n 64 else []) x
        (subst (λ a. Contains (if test a then grays_below h a 64 else []) x) is
        (subst (λ b. Contains (if b then grays_below h p.0 64 else []) x) (sym passes) here)))
  ]

-- lists without doubles that have no name in common
others : (x : Name) (xs : List Name) → ((y : Name) → Contains xs y → same_name x y ≡ true → ⊥)
    → AllByRecursion (λ y. same_name x y ≡ false) xs
others x [] h = tt
others x (y ∷ ys) h =
    (not_true (same_name x y) (h y (contains_head y ys)), others x ys (λ z c. h z (contains_tail y ys z c)))

all_append : (x : Name) (xs ys : List Name) → AllByRecursion (λ y. same_name x y ≡ false) xs
    → AllByRecursion (λ y. same_name x y ≡ false) ys → AllByRecursion (λ y. same_name x y ≡ false) (xs ++ ys)
all_append x [] ys a b = b
all_append x (z ∷ xs) ys a b = (a.0, all_append x xs ys a.1 b)

pub distinct_append : (xs ys : List Name) → IsDistinct same_name xs → IsDistinct same_name ys
    → ((x : Name) → Contains xs x → Contains ys x → ⊥) → IsDistinct same_name (xs ++ ys)
unfolding IsDistinct
distinct_append [] ys a b apart = b
distinct_append (x ∷ xs) ys a b apart = (
  all_append x xs ys a.0
      (others x ys (λ y c same.
      apart x (contains_head x xs) (subst (λ z. Contains ys z) (sym (same_name-is x y same)) c))),
  distinct_append xs ys a.1 b (λ y c. apart y (contains_tail x xs y c)),
)

pub distinct_none : IsDistinct same_name []
unfolding IsDistinct
distinct_none = tt

pub distinct_one : (x : Name) → IsDistinct same_name (x ∷ [])
unfolding IsDistinct
distinct_one x = (tt, tt)

-- no two places have one name
abbrev pub AreNamedApart : HeapState → Type 0
AreNamedApart h = (p q : Place) (x : Name) → name_at h.shape p ≡ Some x → name_at h.shape q ≡ Some x → p ≡ q

module _ (h : HeapState) (apart : AreNamedApart h) where
  distinct_at : (p : Place) → IsDistinct same_name (gray_name h p)
  distinct_at p = go (is_gray_colour (colour_of h p)) (name_at h.shape p)
    where
      go : (b : Bool) (o : Option Name) → IsDistinct same_name (if b then names_in o else [])
      go true None = distinct_none
      go true (Some x) = distinct_one x
      go false o = distinct_none

  distinct_below : (a n : ℕ) → IsDistinct same_name (grays_below h a n)
  distinct_below a zero = distinct_none
  distinct_below a (suc n) = distinct_append (grays_below h a n) (gray_name h (a, n)) (distinct_below a n)
      (distinct_at (a, n)) (λ x c d. (
      let early = below_listed h a n x c in
      let last = listed_gray h (a, n) x d in
      let same : early.0 ≡ n = ap (λ (q : Place). q.1) (apart (a, early.0) (a, n) x early.3 last.1) in
      omega (arith, same, early.1)))

  pub distinct_up_to : (test : ℕ → Bool) (n : ℕ) → IsDistinct same_name (grays_up_to h test n)
  distinct_up_to test zero = distinct_none
  distinct_up_to test (suc n) = distinct_append (grays_up_to h test n) (if test n then grays_below h n 64 else [])
      (distinct_up_to test n) (go (test n)) (λ x c d. (
      let early = up_to_listed h test n x c in
      let last = below_listed h n 64 x (taken h test n x d).1 in
      let same : early.0.0 ≡ n = ap (λ (q : Place). q.0) (apart early.0 (n, last.0) x early.4 last.3) in
      omega (arith, same, early.1)))
    where
      go : (b : Bool) → IsDistinct same_name (if b then grays_below h n 64 else [])
      go true = distinct_below n 64
      go false = distinct_none

-- they are exactly the names of the gray cells of these arenas
pub has_grays : (h : HeapState) (test : ℕ → Bool) (n : ℕ)
    → ((p : Place) → IsGray h p → (p.0 < n) × (p.1 < 64)) → (x : Name)
    → Contains (grays_up_to h test n) x ↔ IsGrayIn h test x
has_grays h test n within x = (
  λ c. (let r = up_to_listed h test n x c in record { place = r.0; named = r.4; here = r.2; gray = r.3 }),
  λ g. (let at = within g.place g.gray in listed_up_to h test n g.place x at.0 at.1 g.here g.gray g.named),
)

-- sorted, they are a list of these
pub grays_listed : (h : HeapState) (test : ℕ → Bool) (n : ℕ) (names : List Name) → AreNamedApart h
    → ((p : Place) → IsGray h p → (p.0 < n) × (p.1 < 64)) → IsPermutation (grays_up_to h test n) names
    → IsSorted name_cmp names → Lists (IsGrayIn h test) names
grays_listed h test n names apart within moved sorted = lists_from_sort (IsGrayIn h test) (grays_up_to h test n) names
    (has_grays h test n within) (distinct_up_to h apart test n) moved sorted

-- one arena more
pub grays_more : (h : HeapState) (test : ℕ → Bool) (a : ℕ) (xs ys : List Name) → xs ≡ grays_up_to h test a
    → test a ≡ true → ys ≡ xs ++ grays_below h a 64 → ys ≡ grays_up_to h test (a + 1)
grays_more h test a xs ys before passes more =
    let next : suc a ≡ a + 1 = omega arith in
    more ∙ ap (λ zs. zs ++ grays_below h a 64) before
    ∙ ap (λ b. grays_up_to h test a ++ (if b then grays_below h a 64 else [])) (sym passes)
    ∙ ap (grays_up_to h test) next
