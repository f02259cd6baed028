-- Lists of fields, of which a cell's kind says how many there are.
use Rattle.std.proofs.Common.{◌≡◌, ◌≤◌, ℕ, zero, suc, List, [], ◌∷◌, set, take, map, replicate, refl, ◌∙◌, ap}
use Rattle.std.proofs.lemmas.List.{take-replicate, map-set}
use Rattle.arena_table.specs.Kinds.{AreNullFrom}

pub map-replicate : {X Y : Type 0} (f : X → Y) (n : ℕ) (x : X) → map f (replicate n x) ≡ replicate n (f x)
map-replicate f zero x = refl
map-replicate f (suc n) x = ap (λ ys. f x ∷ ys) (map-replicate f n x)

pub take-set_within : {X : Type 0} (n : ℕ) (xs : List X) (i : ℕ) (y : X) → take n (set xs i y) ≡ set (take n xs) i y
take-set_within zero xs i y = refl
take-set_within (suc n) [] i y = refl
take-set_within (suc n) (x ∷ xs) zero y = refl
take-set_within (suc n) (x ∷ xs) (suc i) y = ap (λ ys. x ∷ ys) (take-set_within n xs i y)

-- so many equal fields, looked at
pub map-take-replicate : {X Y : Type 0} (f : X → Y) (m n : ℕ) (x : X) → m ≤ n
    → map f (take m (replicate n x)) ≡ replicate m (f x)
map-take-replicate f m n x h = ap (map f) (take-replicate m n x h) ∙ map-replicate f m x

-- one field is written
pub map-take-set : {X Y : Type 0} (f : X → Y) (n : ℕ) (xs : List X) (i : ℕ) (y : X)
    → map f (take n (set xs i y)) ≡ set (map f (take n xs)) i (f y)
map-take-set f n xs i y = ap (map f) (take-set_within n xs i y) ∙ map-set f (take n xs) i y

-- no links
pub AreNullFrom-none : (n : ℕ) → AreNullFrom n []
AreNullFrom-none n zero le link e = absurd (cc)
AreNullFrom-none n (suc f) le link e = absurd (cc)
