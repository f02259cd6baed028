-- What is read after a write to a list, and after a push.
use Rattle.std.proofs.Common.{◌≡◌, ◌≢◌, ◌<◌, ℕ, zero, suc, List, [], ◌∷◌, ◌++◌, Some, length, set, refl, arith, ap}
use Rattle.std.specs.List.{slice_get}

pub slice_get-set_same : {X : Type 0} (xs : List X) (i : ℕ) (y : X) → i < length xs → slice_get (set xs i y) i ≡ Some y
slice_get-set_same [] i y h = absurd (omega arith)
slice_get-set_same (x ∷ xs) zero y h = refl
slice_get-set_same (x ∷ xs) (suc i) y h = slice_get-set_same xs i y (omega arith)

pub slice_get-set_other : {X : Type 0} (xs : List X) (i j : ℕ) (y : X) → j ≢ i
    → slice_get (set xs i y) j ≡ slice_get xs j
slice_get-set_other [] i j y h = refl
slice_get-set_other (x ∷ xs) zero zero y h = absurd (h refl)
slice_get-set_other (x ∷ xs) zero (suc j) y h = refl
slice_get-set_other (x ∷ xs) (suc i) zero y h = refl
slice_get-set_other (x ∷ xs) (suc i) (suc j) y h = slice_get-set_other xs i j y (λ e. h (ap suc e))

pub slice_get-push_at : {X : Type 0} (xs : List X) (y : X) → slice_get (xs ++ y ∷ []) (length xs) ≡ Some y
slice_get-push_at [] y = refl
slice_get-push_at (x ∷ xs) y = slice_get-push_at xs y

pub slice_get-push_before : {X : Type 0} (xs : List X) (i : ℕ) (y : X) → i < length xs
    → slice_get (xs ++ y ∷ []) i ≡ slice_get xs i
slice_get-push_before [] i y h = absurd (omega arith)
slice_get-push_before (x ∷ xs) zero y h = refl
slice_get-push_before (x ∷ xs) (suc i) y h = slice_get-push_before xs i y (omega arith)
