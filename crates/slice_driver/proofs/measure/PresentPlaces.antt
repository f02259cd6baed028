-- The list of the places of present cells, and sums over it.
use Rattle.std.proofs.Common.{◌≡◌, ◌<◌, ◌≤◌, ◌+◌, ℕ, zero, suc, Bool, true, false, if◌then◌else◌, List, [], ◌∷◌, ◌++◌}
use Rattle.std.proofs.Common.{Contains, filter, is_some, length, refl, sym, ap, ◌∙◌, subst, sum_by, cond, inl, inr}
use Rattle.std.proofs.Common.{arith}
use Rattle.std.proofs.lemmas.Bool.{cases_lt}
use Rattle.std.proofs.lemmas.List.Elements.{Contains-append_left, Contains-append_right}
use Rattle.std.proofs.lemmas.List.Sums.{sum_by-append, sum_by-cons, sum_by-le-sum_by}
use Rattle.gz_names.specs.declared.numbers.Place.{Place}
use Rattle.colour_defs.proofs.Lists.{contains_head, contains_tail}
use Rattle.heap_core.specs.Shape.{AreWhole, IsPresent, Shape, cell_of}
use Rattle.slice_driver.specs.UnitsToCome.{places_below, present_places, slots_of}
use Rattle.slice_driver.proofs.group_end.GrayNames.{present_within}
use Rattle.slice_driver.proofs.group_end.Wrappers.{has_filter}

slots_listed : (arena n slot : ℕ) → slot < n → Contains (slots_of arena n) (arena, slot)
unfolding slots_of
slots_listed arena zero slot lt = absurd (omega (arith, lt))
slots_listed arena (suc n) slot lt = elim (cases_lt slot n) [
  | inl before ↦ contains_tail (arena, n) (slots_of arena n) (arena, slot) (slots_listed arena n slot before)
  | inr past ↦ (let same : n ≡ slot = omega (arith, lt, past) in
      subst (λ m. Contains ((arena, n) ∷ slots_of arena n) (arena, m)) same
      (contains_head (arena, n) (slots_of arena n)))
]

places_listed : (n arena slot : ℕ) → arena < n → slot < 64 → Contains (places_below n) (arena, slot)
unfolding places_below
places_listed zero arena slot lt few = absurd (omega (arith, lt))
places_listed (suc n) arena slot lt few = elim (cases_lt arena n) [
  | inl before ↦ Contains-append_right (slots_of n 64) (places_below n) (arena, slot)
      (places_listed n arena slot before few)
  | inr past ↦ (let same : n ≡ arena = omega (arith, lt, past) in
      Contains-append_left (slots_of n 64) (places_below n) (arena, slot)
      (subst (λ m. Contains (slots_of m 64) (arena, slot)) (sym same) (slots_listed arena 64 slot few)))
]

-- a present cell's place is in the list
pub present_listed : (s : Shape) → AreWhole s.arenas → (x : Place) → IsPresent s x → Contains (present_places s) x
present_listed s whole x present =
    let within = present_within s x whole present in
    has_filter (λ p. is_some (cell_of s p)) (places_below (length s.arenas)) x
    (places_listed (length s.arenas) x.0 x.1 within.0 within.1) present

-- a sum whose terms are no greater at the members of the list
pub sum_among : {X : Type 0} (f g : X → ℕ) (xs : List X) → ((x : X) → Contains xs x → f x ≤ g x)
    → sum_by f xs ≤ sum_by g xs
sum_among f g [] less = omega arith
sum_among f g (x ∷ xs) less =
    let rest = sum_among f g xs (λ y c. less y (contains_tail x xs y c)) in
    let here = less x (contains_head x xs) in
    omega (arith, rest, here, sum_by-cons f x xs, sum_by-cons g x xs)

-- a number for each present cell, and none elsewhere
abbrev pub where_present : Shape → (Place → ℕ) → Place → ℕ
where_present s f x = if is_some (cell_of s x) then f x else 0

-- a sum over the members that pass a test
sum_where : {X : Type 0} (test : X → Bool) (f : X → ℕ) (xs : List X)
    → sum_by f (filter test xs) ≡ sum_by (λ x. if test x then f x else 0) xs
sum_where test f [] = refl
sum_where test f (x ∷ xs) =
    go (sum_where test f xs) (test x) ∙ sym (sum_by-cons (λ y. if test y then f y else 0) x xs)
  where
    go : sum_by f (filter test xs) ≡ sum_by (λ y. if test y then f y else 0) xs → (b : Bool)
        → sum_by f (cond b (x ∷ filter test xs) (filter test xs))
        ≡ (if b then f x else 0) + sum_by (λ y. if test y then f y else 0) xs
    go rest true = sum_by-cons f x (filter test xs) ∙ ap (λ n. f x + n) rest
    go rest false =
        let zero_more : sum_by f (filter test xs) ≡ 0 + sum_by (λ y. if test y then f y else 0) xs =
        omega (arith, rest) in
        zero_more

pub present_sum : (s : Shape) (f : Place → ℕ)
    → sum_by f (present_places s) ≡ sum_by (where_present s f) (places_below (length s.arenas))
present_sum s f = sum_where (λ p. is_some (cell_of s p)) f (places_below (length s.arenas))

-- where no place counts for more, the sum is no greater, though the cells that are present are others
pub present_no_more : (s t : Shape) (f g : Place → ℕ) → length t.arenas ≡ length s.arenas
    → ((x : Place) → where_present t g x ≤ where_present s f x)
    → sum_by g (present_places t) ≤ sum_by f (present_places s)
present_no_more s t f g sized less =
    let now = present_sum t g in
    let was = present_sum s f in
    let places : sum_by (where_present t g) (places_below (length t.arenas))
    ≡ sum_by (where_present t g) (places_below (length s.arenas)) =
    ap (λ n. sum_by (where_present t g) (places_below n)) sized in
    let all = sum_by-le-sum_by (where_present t g) (where_present s f) (places_below (length s.arenas)) less in
    omega (arith, now, was, places, all)

-- nothing counts in the slots of an arena
none_in_slots : (f : Place → ℕ) (arena : ℕ) → ((slot : ℕ) → f (arena, slot) ≡ 0) → (n : ℕ)
    → sum_by f (slots_of arena n) ≡ 0
unfolding slots_of
none_in_slots f arena none zero = refl
none_in_slots f arena none (suc n) =
    let first = sum_by-cons f (arena, n) (slots_of arena n) in
    let here = none n in
    let rest = none_in_slots f arena none n in
    omega (arith, first, here, rest)

-- so it is where an arena was made in which no place counts
pub present_no_more_grown : (s t : Shape) (f g : Place → ℕ) → length t.arenas ≡ suc (length s.arenas)
    → ((x : Place) → where_present t g x ≤ where_present s f x)
    → ((slot : ℕ) → where_present t g (length s.arenas, slot) ≡ 0)
    → sum_by g (present_places t) ≤ sum_by f (present_places s)
unfolding places_below
present_no_more_grown s t f g sized less none =
    let now = present_sum t g in
    let was = present_sum s f in
    let places : sum_by (where_present t g) (places_below (length t.arenas))
    ≡ sum_by (where_present t g) (slots_of (length s.arenas) 64 ++ places_below (length s.arenas)) =
    ap (λ n. sum_by (where_present t g) (places_below n)) sized in
    let both = sum_by-append (where_present t g) (slots_of (length s.arenas) 64) (places_below (length s.arenas)) in
    let new = none_in_slots (where_present t g) (length s.arenas) none 64 in
    let all = sum_by-le-sum_by (where_present t g) (where_present s f) (places_below (length s.arenas)) less in
    omega (arith, now, was, places, both, new, all)
