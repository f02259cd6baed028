-- A search by halving among ascending cells.
use Rattle.std.proofs.Common.{
  ◌≡◌,
  ℕ,
  zero,
  suc,
  ◌+◌,
  ◌-◌,
  ◌<◌,
  inl,
  inr,
  List,
  [],
  ◌∷◌,
  ◌++◌,
  length,
  get_or,
  refl,
  ap,
  sym,
  subst,
  ◌∙◌,
  arith,
  add-one,
  true,
  false,
  Bool,
  Some,
  None,
  Ok,
  Err,
  eqb,
  eqb-true,
  eq-eqb,
}
use Rattle.std.specs.Prelude.{map, ◌&&◌, slice_get}
use Rattle.std.specs.List.{AllByRecursion}
use Rattle.std.specs.List.Sorted.{IsBinarySearchResult, IsNonDecreasingBy}
use Rattle.std.specs.Ordering.{is_eq, is_lt, nat_cmp, ordering_then, ordering_reverse, ordering_index}
use Rattle.std.specs.declared.cmp.Ordering.{Ordering}
use Rattle.std.specs.declared.cmp.Ordering.TheVariants.{Less, Equal, Greater}
use Rattle.std.proofs.lemmas.Bool.{cases_lt}
use Rattle.std.specs.Cmp.{tied_itself}
use Rattle.std.specs.FinMap.{nat_cmp-IsAntisymmetric}
use Rattle.std.proofs.lemmas.List.Sorted.{searchable_from_sorted}
use Rattle.gz_names.specs.declared.names.Name.{Name}
use Rattle.gz_names.specs.declared.names.Name.TheVariants.{Cell, Wrap}
use Rattle.gz_names.specs.declared.dumps.DumpColour.{DumpColour}
use Rattle.gz_names.specs.Order.{name_cmp, names_total, same_name}
use Rattle.gz_names.specs.Dumps.{colour_among, is_after}
use Rattle.dump_check.specs.declared.cells.SeenCell.{SeenCell}
use Rattle.dump_check.specs.Seen.{AreAscending, entry_of, name_of}

-- the order's `Equal` and the test are one
then_equal : (a b : Ordering) → ordering_then a b ≡ Equal → (a ≡ Equal) × (b ≡ Equal)
then_equal Less b e = absurd (cc e)
then_equal Equal b e = (refl, e)
then_equal Greater b e = absurd (cc e)

both_true : (a b : Bool) → a ≡ true → b ≡ true → (a && b) ≡ true
both_true a b p q = rw p q

equal_same : (x y : Name) → name_cmp x y ≡ Equal → same_name x y ≡ true
equal_same (Cell a) (Cell b) e = eq-eqb a b (nat_cmp-IsAntisymmetric a b e)
equal_same (Cell a) (Wrap d b) e = absurd (cc e)
equal_same (Wrap c a) (Cell b) e = absurd (cc e)
equal_same (Wrap c a) (Wrap d b) e =
    let both = then_equal (nat_cmp c.0 d.0) (nat_cmp a b) e in
    both_true _ _ (eq-eqb c.0 d.0 (nat_cmp-IsAntisymmetric c.0 d.0 both.0))
    (eq-eqb a b (nat_cmp-IsAntisymmetric a b both.1))

first_true : (a b : Bool) → (a && b) ≡ true → (a ≡ true) × (b ≡ true)
first_true true b e = (refl, e)
first_true false b e = absurd (cc e)

same_is : (x y : Name) → same_name x y ≡ true → x ≡ y
same_is (Cell a) (Cell b) e = ap (λ n. Cell n) (eqb-true a b e)
same_is (Cell a) (Wrap d b) e = absurd (cc e)
same_is (Wrap c a) (Cell b) e = absurd (cc e)
same_is (Wrap c a) (Wrap d b) e =
    let both = first_true (eqb c.0 d.0) (eqb a b) e in
    let p : c.0 ≡ d.0 = eqb-true _ _ both.0 in
    let q : a ≡ b = eqb-true _ _ both.1 in
    λ i. Wrap (record { 0 = p i }) (q i)

same_equal : (x y : Name) → same_name x y ≡ true → name_cmp x y ≡ Equal
same_equal x y e = ap (λ z. name_cmp x z) (sym (same_is x y e)) ∙ tied_itself names_total x

unequal_other : (x y : Name) (b : Bool) → same_name x y ≡ b → (name_cmp x y ≡ Equal → ⊥) → same_name x y ≡ false
unequal_other x y true e h = absurd (h (same_equal x y e))
unequal_other x y false e h = e

pub equal_of : (o : Ordering) → is_eq o ≡ true → o ≡ Equal
equal_of Less e = absurd (cc e)
equal_of Equal e = refl
equal_of Greater e = absurd (cc e)

less_unequal : (o : Ordering) → o ≡ Less → o ≡ Equal → ⊥
less_unequal o l e = cc (l, e)

greater_unequal : (o : Ordering) → o ≡ Greater → o ≡ Equal → ⊥
greater_unequal o l e = cc (l, e)

-- a cell at an index is greater than the one in front
less_at : (x : Name) (xs : List SeenCell) (i : ℕ) (d : SeenCell)
    → AllByRecursion (λ other. name_cmp x other.0 ≡ Less) (map entry_of xs) → i < length xs
    → name_cmp x (name_of (get_or xs i d)) ≡ Less
less_at x [] i d a h = absurd (omega (arith, h))
less_at x (y ∷ xs) zero d a h = a.0
less_at x (y ∷ xs) (suc i) d a h = less_at x xs i d a.1 (omega (arith, h))

-- the cell found is the first of its name
pub found_at : (xs : List SeenCell) (i : ℕ) (d : SeenCell) (x : Name) → AreAscending (map entry_of xs) → i < length xs
    → name_cmp (name_of (get_or xs i d)) x ≡ Equal → colour_among (map entry_of xs) x ≡ Some (get_or xs i d).colour
found_at [] i d x a h e = absurd (omega (arith, h))
found_at (y ∷ xs) zero d x a h e = rw (equal_same (name_of y) x e) refl
found_at (y ∷ xs) (suc i) d x a h e =
    let l : name_cmp (name_of y) (name_of (get_or xs i d)) ≡ Less = less_at (name_of y) xs i d a.0 (omega (arith, h)) in
    let is : name_of (get_or xs i d) ≡ x = same_is _ _ (equal_same (name_of (get_or xs i d)) x e) in
    let m : name_cmp (name_of y) x ≡ Less = subst (λ z. name_cmp (name_of y) z ≡ Less) is l in
    let other : same_name (name_of y) x ≡ false = unequal_other (name_of y) x _ refl (less_unequal _ m) in
    rw other (found_at xs i d x a.1 (omega (arith, h)) e)

-- where none is of the name, none is found
pub none_at : (xs : List SeenCell) (x : Name)
    → ((k : ℕ) (d : SeenCell) → k < length xs → name_cmp (name_of (get_or xs k d)) x ≡ Equal → ⊥)
    → colour_among (map entry_of xs) x ≡ None
none_at [] x h = refl
none_at (y ∷ xs) x h =
    let other : same_name (name_of y) x ≡ false = unequal_other (name_of y) x _ refl (h 0 y (omega arith)) in
    rw other (none_at xs x (λ k d l. h (suc k) d (omega (arith, l))))

-- no cell is less than the one before it
not_less : (a b : Name) → name_cmp a b ≡ Less → is_lt (name_cmp b a) ≡ false
not_less a b h = ap is_lt (names_total.antisymm b a ∙ ap ordering_reverse h)

ascends_at : (xs : List SeenCell) (k : ℕ) (d : SeenCell) → AreAscending (map entry_of xs) → suc k < length xs
    → is_lt (name_cmp (name_of (get_or xs (suc k) d)) (name_of (get_or xs k d))) ≡ false
ascends_at [] k d a h = absurd (omega (arith, h))
ascends_at (y ∷ xs) zero d a h =
    not_less (name_of y) (name_of (get_or xs 0 d)) (less_at (name_of y) xs 0 d a.0 (omega (arith, h)))
ascends_at (y ∷ xs) (suc k) d a h = ascends_at xs k d a.1 (omega (arith, h))

pub rises : (xs : List SeenCell) (x : Name) → AreAscending (map entry_of xs)
    → IsNonDecreasingBy (λ y. ordering_index (name_cmp (name_of y) x)) xs
rises xs x a = searchable_from_sorted names_total name_of xs x
    (λ k d low h. subst (λ j. is_lt (name_cmp (name_of (get_or xs j d)) (name_of (get_or xs k d))) ≡ false)
    (sym (add-one k)) (ascends_at xs k d a (omega (arith, h))))

-- what a search answers
pub searched_some : (xs : List SeenCell) (x : Name) (i : ℕ) (d : SeenCell) → AreAscending (map entry_of xs)
    → i < length xs → IsBinarySearchResult (λ y. name_cmp (name_of y) x) xs (Ok i)
    → colour_among (map entry_of xs) x ≡ Some (get_or xs i d).colour
searched_some xs x i d a h r = found_at xs i d x a h (r d)

pub searched_none : (xs : List SeenCell) (x : Name) (i : ℕ) → AreAscending (map entry_of xs)
    → IsBinarySearchResult (λ y. name_cmp (name_of y) x) xs (Err i) → colour_among (map entry_of xs) x ≡ None
searched_none xs x i a r =
    let parts = r (rises xs x a) in
    none_at xs x (λ k d h e. elim (cases_lt k i) [
      | inl p ↦ less_unequal _ (parts.0 k d (omega arith) p) e
      | inr p
          ↦ greater_unequal _ (parts.1 k d p h) e
    ])

-- a cell behind the others
all_push : (x : Name) (es : List (Name × DumpColour)) (e : Name × DumpColour)
    → AllByRecursion (λ other. name_cmp x other.0 ≡ Less) es → name_cmp x e.0 ≡ Less
    → AllByRecursion (λ other. name_cmp x other.0 ≡ Less) (es ++ e ∷ [])
all_push x [] e a h = (h, tt)
all_push x (y ∷ es) e a h = (a.0, all_push x es e a.1 h)

less_of : (o : Ordering) → is_lt o ≡ true → o ≡ Less
less_of Less e = refl
less_of Equal e = absurd (cc e)
less_of Greater e = absurd (cc e)

-- each cell is less than what comes after the last
less_last : (y : Name × DumpColour) (es : List (Name × DumpColour)) (x : Name) → AreAscending (y ∷ es)
    → is_after (y ∷ es) x ≡ true → name_cmp y.0 x ≡ Less
less_last y [] x a h = less_of _ h
less_last y (z ∷ es) x a h = names_total.trans y.0 z.0 x a.0.0 (less_last z es x a.1 h)

after_rest : (y : Name × DumpColour) (es : List (Name × DumpColour)) (x : Name) → is_after (y ∷ es) x ≡ true
    → is_after es x ≡ true
after_rest y [] x h = refl
after_rest y (z ∷ es) x h = h

pub ascending_push : (es : List (Name × DumpColour)) (e : Name × DumpColour) → AreAscending es → is_after es e.0 ≡ true
    → AreAscending (es ++ e ∷ [])
ascending_push [] e a h = (tt, tt)
ascending_push (y ∷ es) e a h =
    (all_push y.0 es e a.0 (less_last y es e.0 a h), ascending_push es e a.1 (after_rest y es e.0 h))

-- the last cell says whether a name is after all
pub after_none : (xs : List SeenCell) (x : Name) → slice_get xs (length xs - 1) ≡ None
    → is_after (map entry_of xs) x ≡ true
after_none xs x e = go xs (length xs - 1) x (λ h. omega (arith, h)) e
  where
    go : (ys : List SeenCell) (i : ℕ) (z : Name) → (0 < length ys → i < length ys) → slice_get ys i ≡ None
        → is_after (map entry_of ys) z ≡ true
    go [] i z h e = refl
    go (y ∷ ys) zero z h e = absurd (cc e)
    go (y ∷ []) (suc i) z h e = absurd (omega (arith, h (omega arith)))
    go (y ∷ w ∷ ys) (suc i) z h e = go (w ∷ ys) i z (λ k. omega (arith, h (omega arith))) e

pub after_some : (xs : List SeenCell) (i : ℕ) (c : SeenCell) (x : Name) → i + 1 ≡ length xs → slice_get xs i ≡ Some c
    → is_after (map entry_of xs) x ≡ is_lt (name_cmp (name_of c) x)
after_some [] i c x h e = absurd (omega (arith, h))
after_some (y ∷ []) zero c x h e = ap (λ o. is_lt (name_cmp (name_of o) x)) (let k : y ≡ c = cc e in k)
after_some (y ∷ []) (suc i) c x h e = absurd (omega (arith, h))
after_some (y ∷ w ∷ ys) zero c x h e = absurd (omega (arith, h))
after_some (y ∷ w ∷ ys) (suc i) c x h e = after_some (w ∷ ys) i c x (omega (arith, h)) e

-- a list with an element at its last index has that many
pub some_in : (xs : List SeenCell) (i : ℕ) (c : SeenCell) → slice_get xs (length xs - 1) ≡ Some c
    → length xs - 1 + 1 ≡ length xs
some_in [] i c e = absurd (cc e)
some_in (y ∷ xs) i c e = omega arith

pub entries_push : (xs : List SeenCell) (c : SeenCell) → map entry_of (xs ++ c ∷ []) ≡ map entry_of xs ++ entry_of c
    ∷ []
entries_push [] c = refl
entries_push (y ∷ xs) c = ap (λ t. entry_of y ∷ t) (entries_push xs c)
