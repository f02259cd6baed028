-- What is known of piles where one place came onto one of them.
use Rattle.std.proofs.Common.{◌≡◌, ◌≢◌, ◌⊎◌, ◌+◌, ◌≤◌, ◌∷◌, [], Bool, List, Contains, length, count_by, cond, inl, inr}
use Rattle.std.proofs.Common.{refl, ap, ◌∙◌, arith}
use Rattle.std.specs.List.Sorted.{IsPermutation}
use Rattle.std.proofs.lemmas.List.Elements.{Contains-append_cases, Contains-append_right, Contains-push_cases}
use Rattle.std.proofs.lemmas.List.Sorted.{Contains-permutation, IsPermutation-sym, length_permutation}
use Rattle.std.proofs.lemmas.List.Sorted.{sum_by_pushed}
use Rattle.gz_names.specs.declared.numbers.Place.{Place}
use Rattle.mark_stack.specs.declared.stack.Pile.TheVariants as pile
use Rattle.mark_stack.specs.Stack.{Piles, IsPushed}

-- a list with one element more
pub more_kept : {X : Type 0} (xs ys : List X) (x y : X) → IsPermutation (x ∷ xs) ys → Contains xs y → Contains ys y
more_kept xs ys x y h c = Contains-permutation (x ∷ xs) ys y h (Contains-append_right (x ∷ []) xs y c)

pub more_has : {X : Type 0} (xs ys : List X) (x : X) → IsPermutation (x ∷ xs) ys → Contains ys x
more_has xs ys x h = Contains-permutation (x ∷ xs) ys x h (0, omega arith, refl)

pub more_cases : {X : Type 0} (xs ys : List X) (x y : X) → IsPermutation (x ∷ xs) ys → Contains ys y
    → Contains xs y ⊎ (x ≡ y)
more_cases xs ys x y h c =
    let all = Contains-permutation ys (x ∷ xs) y (IsPermutation-sym (x ∷ xs) ys h) c in
    elim (Contains-append_cases (x ∷ []) xs y all) [
      | inl one ↦ elim (Contains-push_cases [] x y one) [
        | inl none ↦ absurd (omega (arith, none.1))
        | inr is ↦ inr is
      ]
      | inr old ↦ inl old
    ]

pub more_length : {X : Type 0} (xs ys : List X) (x : X) → IsPermutation (x ∷ xs) ys → length ys ≡ length xs + 1
more_length xs ys x h = (let long = length_permutation (x ∷ xs) ys h in omega arith)

pub more_count : {X : Type 0} (test : X → Bool) (xs ys : List X) (x : X) → IsPermutation (x ∷ xs) ys
    → count_by test ys ≡ count_by test xs + cond (test x) 1 0
more_count test xs ys x h =
    let sum : count_by test ys ≡ cond (test x) 1 0 + count_by test xs =
    sum_by_pushed (λ z. cond (test z) 1 0) x xs ys h in omega (arith, sum)

-- the piles are different ones
pub gray_black : pile.Gray ≢ pile.Black
gray_black e = cc e

pub wake_black : pile.Wake ≢ pile.Black
wake_black e = cc e

pub black_gray : pile.Black ≢ pile.Gray
black_gray e = cc e

pub wake_gray : pile.Wake ≢ pile.Gray
wake_gray e = cc e

pub black_wake : pile.Black ≢ pile.Wake
black_wake e = cc e

pub gray_wake : pile.Gray ≢ pile.Wake
gray_wake e = cc e

-- so only one pile is another list
pub black_alone : (p q : Piles) (x : Place) → IsPushed p pile.Black x q → q ≡ record p { black = q.black }
black_alone p q x e = ap (λ (g : List Place). record q { gray = g }) (e.others pile.Gray gray_black)
    ∙ ap (λ (w : List Place). record p { black = q.black; wake = w }) (e.others pile.Wake wake_black)

pub gray_alone : (p q : Piles) (x : Place) → IsPushed p pile.Gray x q → q ≡ record p { gray = q.gray }
gray_alone p q x e = ap (λ (b : List Place). record q { black = b }) (e.others pile.Black black_gray)
    ∙ ap (λ (w : List Place). record p { gray = q.gray; wake = w }) (e.others pile.Wake wake_gray)

pub wake_alone : (p q : Piles) (x : Place) → IsPushed p pile.Wake x q → q ≡ record p { wake = q.wake }
wake_alone p q x e = ap (λ (b : List Place). record q { black = b }) (e.others pile.Black black_wake)
    ∙ ap (λ (g : List Place). record p { gray = g; wake = q.wake }) (e.others pile.Gray gray_wake)
