-- As weak entries are dropped, no more looks are to come.
use Rattle.std.proofs.Common.{◌≡◌, ◌≢◌, ◌<◌, ◌≤◌, ◌+◌, ℕ, zero, suc, List, [], ◌∷◌, Option, None, Some, is_some, cond}
use Rattle.std.proofs.Common.{Contains, count_by, length, slice_get, slice_index_or, sum_by, refl, sym, ap}
use Rattle.std.proofs.Common.{◌∙◌, arith}
use Rattle.std.specs.Prelude.{AllPairs}
use Rattle.gz_names.specs.declared.numbers.Place.{Place}
use Rattle.std.proofs.lemmas.List.Sums.{sum_by-cons}
use Rattle.weak_maps.specs.WeakMaps.{LooksState, NoneLeft}
use Rattle.weak_maps.specs.declared.colours.MarkColour.{MarkColour}
use Rattle.weak_maps.specs.declared.colours.MarkColour.TheVariants as mark
use Rattle.marker.specs.Looks.{looks_now}

-- the list without the element of an index
abbrev without : {X : Type 0} → List X → ℕ → List X
without [] i = []
without (x ∷ xs) zero = xs
without (x ∷ xs) (suc i) = x ∷ without xs i

without_sum : {X : Type 0} (f : X → ℕ) (xs : List X) (i : ℕ) (x : X) → i < length xs → slice_index_or xs i x ≡ x
    → sum_by f (without xs i) + f x ≡ sum_by f xs
without_sum f [] i x lt at = absurd (omega (arith, lt))
without_sum f (y ∷ xs) zero x lt at =
    let all = sum_by-cons f y xs in
    let same : f y ≡ f x = ap f at in
    omega (arith, all, same)
without_sum f (y ∷ xs) (suc i) x lt at =
    let rest = without_sum f xs i x (omega (arith, lt)) at in
    let all = sum_by-cons f y xs in
    let now = sum_by-cons f y (without xs i) in
    omega (arith, rest, all, now)

without_other : {X : Type 0} (xs : List X) (i : ℕ) (x y : X) → i < length xs → slice_index_or xs i x ≡ x → y ≢ x
    → Contains xs y → Contains (without xs i) y
without_other [] i x y lt at other (k, low, here) = absurd (omega (arith, lt))
without_other (z ∷ xs) zero x y lt at other (zero, low, here) = absurd (other (sym here ∙ at))
without_other (z ∷ xs) zero x y lt at other (suc k, low, here) = (k, omega (arith, low), here)
without_other (z ∷ xs) (suc i) x y lt at other (zero, low, here) = (0, omega arith, here)
without_other (z ∷ xs) (suc i) x y lt at other (suc k, low, here) =
    let rest = without_other xs i x y (omega (arith, lt)) at other (k, omega (arith, low), here) in
    (suc rest.0, omega (arith, rest.1), rest.2)

-- entries, or rows of them, of which each was there, each once: whatever is summed over them is no more than it was
pub sum_no_more : {X : Type 0} (map key : X → Place) (f : X → ℕ) (new old : List X)
    → AllPairs (λ d e. map d ≡ map e → key d ≢ key e) new → ((x : X) → Contains new x → Contains old x)
    → sum_by f new ≤ sum_by f old
sum_no_more map key f [] old distinct was = omega arith
sum_no_more map key f (e ∷ new) old distinct was =
    let at : Contains old e = was e (0, omega arith, refl) in
    let rest : sum_by f new ≤ sum_by f (without old at.0) =
    sum_no_more map key f new (without old at.0)
    (λ i j d lt below. distinct (suc i) (suc j) d (omega (arith, lt)) (omega (arith, below)))
    (λ d c. without_other old at.0 e d at.1 at.2
    (λ same. (let is : e ≡ slice_index_or new c.0 d = sym same ∙ sym c.2 in
    distinct 0 (suc c.0) d (omega arith) (omega (arith, c.1)) (ap map is) (ap key is)))
    (was d (suc c.0, omega (arith, c.1), c.2))) in
    let gone = without_sum f old at.0 e at.1 at.2 in
    let all = sum_by-cons f e new in
    omega (arith, rest, gone, all)

-- where nothing is to be looked at, no look is to come now
none_in : (xs : List (Option MarkColour)) → ((n : ℕ) → slice_get xs n ≢ Some (Some mark.Gray))
    → ((n : ℕ) → slice_get xs n ≢ Some (Some mark.Black)) → count_by is_some xs ≡ 0
none_in [] gray black = refl
none_in (None ∷ xs) gray black =
    let rest = none_in xs (λ n. gray (suc n)) (λ n. black (suc n)) in
    let all = sum_by-cons (λ (o : Option MarkColour). cond (is_some o) 1 0) None xs in
    omega (arith, rest, all)
none_in (Some mark.Gray ∷ xs) gray black = absurd (gray 0 refl)
none_in (Some mark.Black ∷ xs) gray black = absurd (black 0 refl)

pub none_now : (looks : LooksState) → NoneLeft mark.Gray looks → NoneLeft mark.Black looks → looks_now looks ≡ 0
none_now looks gray black =
    let maps = none_in looks.by_map (λ n. (gray.0 n).0) (λ n. (black.0 n).0) in
    let keys = none_in looks.by_key (λ n. (gray.0 n).1) (λ n. (black.0 n).1) in
    let rows = none_in looks.by_delegate gray.1 black.1 in
    omega (arith, maps, keys, rows)
