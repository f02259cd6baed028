-- The present cells, arena by arena and slot by slot: all of them, and none twice.
use Rattle.std.proofs.Common.{◌≡◌, ◌<◌, ℕ, zero, suc, List, [], ◌∷◌, length, Option, Some}
use Rattle.std.proofs.Common.{None}
use Rattle.std.proofs.Common.{Contains, refl, sym, ap, subst, ◌∙◌, inl, inr, arith}
use Rattle.std.specs.List.{IsDistinct}
use Rattle.std.specs.List.Sorted.{IsPermutation, IsSorted}
use Rattle.std.proofs.lemmas.List.{map-append}
use Rattle.std.proofs.lemmas.List.Elements.{Contains-append_cases, Contains-append_left, Contains-append_right}
use Rattle.std.proofs.lemmas.List.Sorted.{Contains-permutation, IsPermutation-map, IsPermutation-sym}
use Rattle.gz_names.specs.Order.{name_cmp, same_name}
use Rattle.gz_names.specs.declared.names.Name.{Name}
use Rattle.gz_names.specs.declared.numbers.Place.{Place}
use Rattle.colour_defs.proofs.Lists.{contains_cases, contains_head, contains_tail, nothing_in_none}
use Rattle.heap_core.specs.Shape.{AreWhole, Shape, name_at}
use Rattle.slice_driver.specs.Listings.{AreNamedApart, ListsCells, cell_named, cells_below, cells_up_to, names_of}
use Rattle.slice_driver.specs.declared.listings.NamedCell.{NamedCell}
use Rattle.slice_driver.proofs.abstraction.Named.{named_present}
use Rattle.slice_driver.proofs.group_end.GrayNames.{present_within}
use Rattle.slice_driver.proofs.group_end.Grays.{distinct_append, distinct_none, distinct_one}
use Rattle.slice_driver.proofs.basics.Sorted.{ascending_from_sort}

named : (p : Place) (o : Option Name) (c : NamedCell) → Contains (cell_named p o) c
    → (c.place ≡ p) × (o ≡ Some c.name)
named p None c h = absurd (nothing_in_none c h)
named p (Some x) c h = elim (contains_cases (record { name = x; place = p }) [] c h) [
  | inl is ↦ (sym (ap (λ (d : NamedCell). d.place) is), ap (λ (d : NamedCell). Some d.name) is)
  | inr none ↦ absurd (nothing_in_none c none)
]

at_named : (p : Place) (o : Option Name) (c : NamedCell) → c.place ≡ p → o ≡ Some c.name → Contains (cell_named p o) c
at_named p o c at e = subst (λ (q : Place). Contains (cell_named q o) c) at
    (subst (λ (z : Option Name). Contains (cell_named c.place z) c) (sym e) (contains_head c []))

-- the slots of an arena
below_listed : (s : Shape) (a n : ℕ) (c : NamedCell) → Contains (cells_below s a n) c → (slot : ℕ) × (slot < n)
    × (c.place ≡ (a, slot)) × (name_at s (a, slot) ≡ Some c.name)
below_listed s a zero c h = absurd (nothing_in_none c h)
below_listed s a (suc n) c h =
    elim (Contains-append_cases (cells_below s a n) (cell_named (a, n) (name_at s (a, n))) c h) [
      | inl early ↦ (let r = below_listed s a n c early in (r.0, omega (arith, r.1), r.2, r.3))
      | inr last ↦ (let r = named (a, n) (name_at s (a, n)) c last in (n, omega arith, r.0, r.1))
    ]

listed_below : (s : Shape) (a n slot : ℕ) (c : NamedCell) → slot < n → c.place ≡ (a, slot)
    → name_at s (a, slot) ≡ Some c.name → Contains (cells_below s a n) c
listed_below s a zero slot c lt at e = absurd (omega (arith, lt))
listed_below s a (suc n) slot c lt at e = elim (Rattle.std.proofs.lemmas.Bool.cases_lt slot n) [
  | inl less ↦ Contains-append_left (cells_below s a n) (cell_named (a, n) (name_at s (a, n))) c
      (listed_below s a n slot c less at e)
  | inr more ↦ (let is : slot ≡ n = omega (arith, lt, more) in
      Contains-append_right (cells_below s a n) (cell_named (a, n) (name_at s (a, n))) c
      (at_named (a, n) (name_at s (a, n)) c (subst (λ i. c.place ≡ (a, i)) is at)
      (subst (λ i. name_at s (a, i) ≡ Some c.name) is e)))
]

-- the arenas
up_to_listed : (s : Shape) (n : ℕ) (c : NamedCell) → Contains (cells_up_to s n) c → (a : ℕ) × (slot : ℕ) × (a < n)
    × (c.place ≡ (a, slot)) × (name_at s (a, slot) ≡ Some c.name)
up_to_listed s zero c h = absurd (nothing_in_none c h)
up_to_listed s (suc n) c h = elim (Contains-append_cases (cells_up_to s n) (cells_below s n 64) c h) [
  | inl early ↦ (let r = up_to_listed s n c early in (r.0, r.1, omega (arith, r.2), r.3, r.4))
  | inr last ↦ (let r = below_listed s n 64 c last in (n, r.0, omega arith, r.2, r.3))
]

listed_up_to : (s : Shape) (n : ℕ) (c : NamedCell) → c.place.0 < n → c.place.1 < 64
    → name_at s c.place ≡ Some c.name → Contains (cells_up_to s n) c
listed_up_to s zero c lt slot e = absurd (omega (arith, lt))
listed_up_to s (suc n) c lt slot e = elim (Rattle.std.proofs.lemmas.Bool.cases_lt c.place.0 n) [
  | inl less ↦ Contains-append_left (cells_up_to s n) (cells_below s n 64) c (listed_up_to s n c less slot e)
  | inr more ↦ (let is : c.place.0 ≡ n = omega (arith, lt, more) in
      Contains-append_right (cells_up_to s n) (cells_below s n 64) c
      (subst (λ a. Contains (cells_below s a 64) c) is
      (listed_below s c.place.0 64 c.place.1 c slot refl e)))
]

-- a name that is listed is that of a cell that is
pub name_from : (cells : List NamedCell) (x : Name) → Contains (names_of cells) x → (c : NamedCell) × Contains cells c
    × (c.name ≡ x)
name_from [] x h = absurd (nothing_in_none x h)
name_from (c ∷ cells) x h = elim (contains_cases c.name (names_of cells) x h) [
  | inl is ↦ (c, contains_head c cells, is)
  | inr tail ↦ (let r = name_from cells x tail in (r.0, contains_tail c cells r.0 r.1, r.2))
]

-- no name is listed twice
module _ (s : Shape) (apart : AreNamedApart s) where
  distinct_named : (p : Place) (o : Option Name) → IsDistinct same_name (names_of (cell_named p o))
  distinct_named p None = distinct_none
  distinct_named p (Some x) = distinct_one x

  distinct_below : (a n : ℕ) → IsDistinct same_name (names_of (cells_below s a n))
  distinct_below a zero = distinct_none
  distinct_below a (suc n) =
      subst (λ xs. IsDistinct same_name xs)
      (sym (map-append (λ (c : NamedCell). c.name) (cells_below s a n) (cell_named (a, n) (name_at s (a, n)))))
      (distinct_append (names_of (cells_below s a n)) (names_of (cell_named (a, n) (name_at s (a, n))))
      (distinct_below a n) (distinct_named (a, n) (name_at s (a, n))) (λ x c d. (
      let early = name_from (cells_below s a n) x c in
      let one = below_listed s a n early.0 early.1 in
      let late = name_from (cell_named (a, n) (name_at s (a, n))) x d in
      let other = named (a, n) (name_at s (a, n)) late.0 late.1 in
      let same : one.0 ≡ n = ap (λ (q : Place). q.1) (apart (a, one.0) (a, n) x
      (one.3 ∙ ap (λ y. Some y) early.2) (other.1 ∙ ap (λ y. Some y) late.2)) in
      omega (arith, same, one.1))))

  distinct_up_to : (n : ℕ) → IsDistinct same_name (names_of (cells_up_to s n))
  distinct_up_to zero = distinct_none
  distinct_up_to (suc n) =
      subst (λ xs. IsDistinct same_name xs)
      (sym (map-append (λ (c : NamedCell). c.name) (cells_up_to s n) (cells_below s n 64)))
      (distinct_append (names_of (cells_up_to s n)) (names_of (cells_below s n 64))
      (distinct_up_to n) (distinct_below n 64) (λ x c d. (
      let early = name_from (cells_up_to s n) x c in
      let one = up_to_listed s n early.0 early.1 in
      let late = name_from (cells_below s n 64) x d in
      let other = below_listed s n 64 late.0 late.1 in
      let same : one.0 ≡ n = ap (λ (q : Place). q.0) (apart (one.0, one.1) (n, other.0) x
      (one.4 ∙ ap (λ y. Some y) early.2) (other.3 ∙ ap (λ y. Some y) late.2)) in
      omega (arith, same, one.2))))

  -- sorted by name, they are exactly the present cells
  pub cells_listed : (cells : List NamedCell) → AreWhole s.arenas
      → IsPermutation (cells_up_to s (length s.arenas)) cells → IsSorted name_cmp (names_of cells) → ListsCells s cells
  cells_listed cells whole moved sorted = record {
    ascending = ascending_from_sort (names_of (cells_up_to s n)) (names_of cells)
        (IsPermutation-map (λ (c : NamedCell). c.name) (cells_up_to s n) cells moved) sorted (distinct_up_to n);
    exact = λ c. (
      (λ h. (let r = up_to_listed s n c
          (Contains-permutation cells (cells_up_to s n) c (IsPermutation-sym (cells_up_to s n) cells moved) h) in
          subst (λ (p : Place). name_at s p ≡ Some c.name) (sym r.3) r.4)),
      (λ e. (let at = present_within s c.place whole (named_present s c.place c.name e) in
          Contains-permutation (cells_up_to s n) cells c moved (listed_up_to s n c at.0 at.1 e))),
    );
  }
    where
      n : ℕ
      n = length s.arenas
