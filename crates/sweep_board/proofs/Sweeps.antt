-- How often an arena stands among those that a seat swept.
use Rattle.std.proofs.Common.{◌≡◌, ◌≢◌, ℕ, zero, suc, ◌+◌, ◌<◌, Bool, cond, eqb, List, [], ◌∷◌, ◌++◌, length, get_or}
use Rattle.std.proofs.Common.{ap, ◌∙◌, arith, eq-eqb, ne_eqb, Contains}
use Rattle.std.specs.List.{count_by}
use Rattle.std.proofs.lemmas.List.Sums.{sum_by-cons, sum_by-append}
use mathlib.Core.Logic.{dite}
use native.Mathlib.Decide.{ℕ_discrete}

abbrev pub times : ℕ → List ℕ → ℕ
times i xs = count_by (λ k. eqb k i) xs

pub times-same : (i k : ℕ) (xs : List ℕ) → k ≡ i → times i (k ∷ xs) ≡ 1 + times i xs
times-same i k xs e =
    sum_by-cons (λ a. cond (eqb a i) 1 0) k xs ∙ ap (λ (b : Bool). cond b 1 0 + times i xs) (eq-eqb k i e)

pub times-other : (i k : ℕ) (xs : List ℕ) → k ≢ i → times i (k ∷ xs) ≡ times i xs
times-other i k xs ne =
    sum_by-cons (λ a. cond (eqb a i) 1 0) k xs
    ∙ ap (λ (b : Bool). cond b 1 0 + times i xs) (ne_eqb k i ne) ∙ omega arith

pub times-append : (i : ℕ) (xs ys : List ℕ) → times i (xs ++ ys) ≡ times i xs + times i ys
times-append i xs ys = sum_by-append (λ a. cond (eqb a i) 1 0) xs ys

-- it stands there exactly where that is more than never
pub times-contains : (i : ℕ) (xs : List ℕ) → 0 < times i xs → Contains xs i
times-contains i [] more = absurd (omega arith)
times-contains i (x ∷ xs) more = dite (ℕ_discrete x i)
    (λ same. (0, omega arith, same))
    (λ ne. let e = times-other i x xs ne in let rest = times-contains i xs (omega arith) in
    (suc rest.0, (let lt = rest.1 in omega arith), rest.2))

pub contains-times : (i : ℕ) (xs : List ℕ) → Contains xs i → 0 < times i xs
contains-times i xs has = by xs has.0 has.1 has.2 where
  by : (ys : List ℕ) (k : ℕ) → k < length ys → get_or ys k i ≡ i → 0 < times i ys
  by [] k lt is = absurd (omega arith)
  by (y ∷ ys) zero lt is = let e = times-same i y ys is in omega arith
  by (y ∷ ys) (suc k) lt is = let rest = by ys k (omega arith) is in dite (ℕ_discrete y i)
      (λ same. let e = times-same i y ys same in omega arith)
      (λ ne. let e = times-other i y ys ne in omega arith)
