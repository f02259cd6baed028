-- What is read from a list after it was written, and after a push or a pop.
use Rattle.std.proofs.Common.{◌≡◌, ◌≢◌, ◌<◌, ◌≤◌, ◌-◌, ◌+◌, ◌⊎◌, inl, inr, ℕ, zero, suc, Option, map, List, [], ◌∷◌}
use Rattle.std.proofs.Common.{◌++◌, Some, None, length, set, take, get_or, refl, sym, ◌∙◌, arith, ap, length-set}
use Rattle.std.proofs.Common.{length-append}
use Rattle.std.specs.List.{slice_get, swap_remove}
use Rattle.std.specs.Option.{option_map}
use Rattle.std.proofs.lemmas.List.{length-take}
use Rattle.std.proofs.lemmas.Bool.{cases_eq, cases_lt}
use Rattle.std.proofs.lemmas.Option.{slice_get_within, slice_get_past, slice_get-get_or, slice_get-map, same_Some}

pub slice_get-set_same : {X : Type 0} (xs : List X) (i : ℕ) (y : X) → i < length xs → slice_get (set xs i y) i ≡ Some y
slice_get-set_same [] i y h = absurd (omega arith)
slice_get-set_same (x ∷ xs) zero y h = refl
slice_get-set_same (x ∷ xs) (suc i) y h = slice_get-set_same xs i y (omega arith)

pub slice_get-set_other : {X : Type 0} (xs : List X) (i j : ℕ) (y : X) → j ≢ i
    → slice_get (set xs i y) j ≡ slice_get xs j
slice_get-set_other [] i j y h = refl
slice_get-set_other (x ∷ xs) zero zero y h = absurd (h refl)
slice_get-set_other (x ∷ xs) zero (suc j) y h = refl
slice_get-set_other (x ∷ xs) (suc i) zero y h = refl
slice_get-set_other (x ∷ xs) (suc i) (suc j) y h = slice_get-set_other xs i j y (λ e. h (ap suc e))

-- lists from which the same is read
pub same_slices : {X : Type 0} (xs ys : List X) → ((k : ℕ) → slice_get xs k ≡ slice_get ys k) → xs ≡ ys
same_slices [] [] h = refl
same_slices [] (y ∷ ys) h = cc (h zero)
same_slices (x ∷ xs) [] h = cc (h zero)
same_slices (x ∷ xs) (y ∷ ys) h =
    let first : x ≡ y = same_Some x y (h zero) in
    let rest = same_slices xs ys (λ k. h (suc k)) in λ j. first j ∷ rest j

-- what was read after a write was written there, or stood there
pub slice_get-set_cases : {X : Type 0} (xs : List X) (i j : ℕ) (y x : X) → slice_get (set xs i y) j ≡ Some x
    → ((j ≡ i) × (x ≡ y) × (i < length xs)) ⊎ ((j ≢ i) × (slice_get xs j ≡ Some x))
slice_get-set_cases xs i j y x h = elim (cases_eq j i) [
  | inl same ↦ (elim (cases_lt i (length xs)) [
    | inl less ↦ inl (
      same,
      same_Some x y (sym h ∙ (ap (slice_get (set xs i y)) same ∙ slice_get-set_same xs i y less)),
      less,
    )
    | inr past ↦ absurd (let within = slice_get_within (set xs i y) j x h in let len = length-of xs i y in
        omega (arith, within, len, past))
  ])
  | inr other ↦ inr (other, sym (slice_get-set_other xs i j y other) ∙ h)
]
  where
    length-of : {X : Type 0} (xs : List X) (i : ℕ) (y : X) → length (set xs i y) ≡ length xs
    length-of [] i y = refl
    length-of (x ∷ xs) zero y = refl
    length-of (x ∷ xs) (suc i) y = ap suc (length-of xs i y)

pub slice_get-push_at : {X : Type 0} (xs : List X) (y : X) → slice_get (xs ++ y ∷ []) (length xs) ≡ Some y
slice_get-push_at [] y = refl
slice_get-push_at (x ∷ xs) y = slice_get-push_at xs y

pub slice_get-push_before : {X : Type 0} (xs : List X) (i : ℕ) (y : X) → i < length xs
    → slice_get (xs ++ y ∷ []) i ≡ slice_get xs i
slice_get-push_before [] i y h = absurd (omega arith)
slice_get-push_before (x ∷ xs) zero y h = refl
slice_get-push_before (x ∷ xs) (suc i) y h = slice_get-push_before xs i y (omega arith)

pub slice_get-push_cases : {X : Type 0} (xs : List X) (i : ℕ) (y x : X) → slice_get (xs ++ y ∷ []) i ≡ Some x
    → ((i ≡ length xs) × (x ≡ y)) ⊎ ((i < length xs) × (slice_get xs i ≡ Some x))
slice_get-push_cases [] zero y x h = inl (refl, same_Some x y (sym h))
slice_get-push_cases [] (suc i) y x h = cc h
slice_get-push_cases (z ∷ xs) zero y x h = inr (omega arith, h)
slice_get-push_cases (z ∷ xs) (suc i) y x h = elim (slice_get-push_cases xs i y x h) [
  | inl (at, is) ↦ inl (ap suc at, is)
  | inr (less, is) ↦ inr (omega arith, is)
]

pub slice_get-take : {X : Type 0} (n : ℕ) (xs : List X) (i : ℕ) → i < n → slice_get (take n xs) i ≡ slice_get xs i
slice_get-take zero xs i h = absurd (omega arith)
slice_get-take (suc n) [] i h = refl
slice_get-take (suc n) (x ∷ xs) zero h = refl
slice_get-take (suc n) (x ∷ xs) (suc i) h = slice_get-take n xs i (omega arith)

pub slice_get-take_past : {X : Type 0} (n : ℕ) (xs : List X) (i : ℕ) → n ≤ i → slice_get (take n xs) i ≡ None
slice_get-take_past zero xs i h = refl
slice_get-take_past (suc n) [] i h = refl
slice_get-take_past (suc n) (x ∷ xs) zero h = absurd (omega arith)
slice_get-take_past (suc n) (x ∷ xs) (suc i) h = slice_get-take_past n xs i (omega arith)

pub slice_get-take_cases : {X : Type 0} (n : ℕ) (xs : List X) (i : ℕ) (x : X) → slice_get (take n xs) i ≡ Some x
    → (i < n) × (slice_get xs i ≡ Some x)
slice_get-take_cases n xs i x h = elim (cases_lt i n) [
  | inl less ↦ (less, sym (slice_get-take n xs i less) ∙ h)
  | inr past ↦ absurd (let none = slice_get-take_past n xs i past in cc)
]

-- what stands in a list where the last has taken the place of one
pub length-swap_remove : {X : Type 0} (xs : List X) (n : ℕ) (d : X) → length (swap_remove xs n d) ≡ length xs - 1
length-swap_remove xs n d =
    let cut = length-take (length xs - 1) (set xs n (get_or xs (length xs - 1) d)) in
    let same = length-set xs n (get_or xs (length xs - 1) d) in
    omega (arith, cut, same)

pub swap_remove_other : {X : Type 0} (xs : List X) (n k : ℕ) (d : X) → k ≢ n → k < length xs - 1
    → slice_get (swap_remove xs n d) k ≡ slice_get xs k
swap_remove_other xs n k d other less =
    slice_get-take (length xs - 1) (set xs n (get_or xs (length xs - 1) d)) k less
    ∙ slice_get-set_other xs n k (get_or xs (length xs - 1) d) other

pub swap_remove_here : {X : Type 0} (xs : List X) (n : ℕ) (d : X) → n < length xs - 1
    → slice_get (swap_remove xs n d) n ≡ slice_get xs (length xs - 1)
swap_remove_here xs n d less =
    slice_get-take (length xs - 1) (set xs n (get_or xs (length xs - 1) d)) n less
    ∙ (slice_get-set_same xs n (get_or xs (length xs - 1) d) (omega arith)
    ∙ sym (slice_get-get_or xs (length xs - 1) d (omega arith)))

pub swap_remove_cases : {X : Type 0} (xs : List X) (n k : ℕ) (d x : X) → slice_get (swap_remove xs n d) k ≡ Some x
    → (k < length xs - 1)
    × (((k ≡ n) × (slice_get xs (length xs - 1) ≡ Some x)) ⊎ ((k ≢ n) × (slice_get xs k ≡ Some x)))
swap_remove_cases xs n k d x h =
    let within = slice_get_within (swap_remove xs n d) k x h in
    let len = length-swap_remove xs n d in
    let less : k < length xs - 1 = omega (arith, within, len) in (
      less,
      elim (cases_eq k n) [
        | inl same ↦ inl (
          same,
          sym (swap_remove_here xs n d (omega (arith, less, same)))
              ∙ (ap (slice_get (swap_remove xs n d)) (sym same) ∙ h),
        )
        | inr other ↦ inr (other, sym (swap_remove_other xs n k d other less) ∙ h)
      ],
    )

-- the last of a list that was pushed takes the place of another
pub swap_remove-pushed : {X : Type 0} (xs : List X) (n : ℕ) (y d : X) → n < length xs
    → swap_remove (xs ++ y ∷ []) n d ≡ set xs n y
swap_remove-pushed xs n y d less =
    same_slices (swap_remove (xs ++ y ∷ []) n d) (set xs n y) (λ k. elim (cases_lt k (length xs)) [
      | inl low ↦ (elim (cases_eq k n) [
        | inl same ↦ ap (slice_get (swap_remove (xs ++ y ∷ []) n d)) same
            ∙ (swap_remove_here (xs ++ y ∷ []) n d (omega (arith, len))
            ∙ (ap (slice_get (xs ++ y ∷ [])) (omega (arith, len))
            ∙ (slice_get-push_at xs y
            ∙ (sym (slice_get-set_same xs n y less) ∙ ap (slice_get (set xs n y)) (sym same)))))
        | inr other ↦ swap_remove_other (xs ++ y ∷ []) n k d other (omega (arith, len))
            ∙ (slice_get-push_before xs k y low ∙ sym (slice_get-set_other xs n k y other))
      ])
      | inr high ↦ slice_get_past (swap_remove (xs ++ y ∷ []) n d) k
          (omega (arith, length-swap_remove (xs ++ y ∷ []) n d, len, high))
          ∙ sym (slice_get_past (set xs n y) k (omega (arith, length-set xs n y, high)))
    ])
  where
    len : length (xs ++ y ∷ []) ≡ length xs + 1
    len = omega (arith, length-append xs (y ∷ []))

pub swap_remove-last : {X : Type 0} (xs : List X) (n : ℕ) (y d : X) → length xs ≡ n
    → swap_remove (xs ++ y ∷ []) n d ≡ xs
swap_remove-last xs n y d all = same_slices (swap_remove (xs ++ y ∷ []) n d) xs (λ k. elim (cases_lt k (length xs)) [
  | inl low ↦ swap_remove_other (xs ++ y ∷ []) n k d (omega (arith, low, all)) (omega (arith, len))
      ∙ slice_get-push_before xs k y low
  | inr high ↦ slice_get_past (swap_remove (xs ++ y ∷ []) n d) k
      (omega (arith, length-swap_remove (xs ++ y ∷ []) n d, len, high)) ∙ sym (slice_get_past xs k high)
])
  where
    len : length (xs ++ y ∷ []) ≡ length xs + 1
    len = omega (arith, length-append xs (y ∷ []))

-- lists that differ at one index alone, without it
pub same_swap_remove : {X : Type 0} (xs ys : List X) (n : ℕ) (d : X) → length xs ≡ length ys
    → ((k : ℕ) → k ≢ n → slice_get xs k ≡ slice_get ys k) → swap_remove xs n d ≡ swap_remove ys n d
same_swap_remove xs ys n d len same =
    same_slices (swap_remove xs n d) (swap_remove ys n d) (λ k. elim (cases_lt k (length xs - 1)) [
      | inl low ↦ (elim (cases_eq k n) [
        | inl at ↦ ap (slice_get (swap_remove xs n d)) at
            ∙ (swap_remove_here xs n d (omega (arith, low, at))
            ∙ (same (length xs - 1) (omega (arith, low, at))
            ∙ (ap (slice_get ys) (omega (arith, len))
            ∙ (sym (swap_remove_here ys n d (omega (arith, low, at, len)))
            ∙ ap (slice_get (swap_remove ys n d)) (sym at)))))
        | inr other ↦ swap_remove_other xs n k d other low
            ∙ (same k other ∙ sym (swap_remove_other ys n k d other (omega (arith, low, len))))
      ])
      | inr high ↦ slice_get_past (swap_remove xs n d) k (omega (arith, length-swap_remove xs n d, high))
          ∙ sym (slice_get_past (swap_remove ys n d) k (omega (arith, length-swap_remove ys n d, high, len)))
    ])

-- what is read from a list of results
pub map_at : {X Y : Type 0} (f : X → Y) (xs : List X) (k : ℕ) (y : Y) → slice_get (map f xs) k ≡ Some y
    → (x : X) × (slice_get xs k ≡ Some x) × (f x ≡ y)
map_at {X} {Y} f xs k y h = by (slice_get xs k) refl (sym (slice_get-map f xs k) ∙ h)
  where
    by : (o : Option X) → slice_get xs k ≡ o → option_map f o ≡ Some y → (x : X) × (slice_get xs k ≡ Some x) × (f x ≡ y)
    by None e g = cc g
    by (Some x) e g = (x, e, same_Some _ _ g)
