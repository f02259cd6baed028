-- A zone's state is replaced.
use Rattle.std.proofs.Common.{◌≡◌, ◌≢◌, ◌<◌, ℕ, zero, suc, List, [], ◌∷◌, Some, length, refl, ap, arith}
use Rattle.std.proofs.Common.{slice_get, slice_set}
use Rattle.zones.specs.declared.states.State.{State}

pub set_here : (xs : List State) (i : ℕ) (v : State) → i < length xs → slice_get (slice_set xs i v) i ≡ Some v
set_here [] i v lt = absurd (omega (arith, lt))
set_here (x ∷ xs) zero v lt = refl
set_here (x ∷ xs) (suc i) v lt = set_here xs i v (omega (arith, lt))

pub set_there : (xs : List State) (i j : ℕ) (v : State) → j ≢ i → slice_get (slice_set xs i v) j ≡ slice_get xs j
set_there [] i j v n = refl
set_there (x ∷ xs) zero zero v n = absurd (n refl)
set_there (x ∷ xs) zero (suc j) v n = refl
set_there (x ∷ xs) (suc i) zero v n = refl
set_there (x ∷ xs) (suc i) (suc j) v n = set_there xs i j v (λ e. n (ap suc e))
