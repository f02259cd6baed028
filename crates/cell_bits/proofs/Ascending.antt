-- Jobs whose arenas ascend, and a binary search over them.
use Rattle.std.proofs.Common.{◌≡◌, ℕ, zero, suc, ◌<◌, ◌≤◌, Bool, cond, eqb, List, [], ◌∷◌, ◌++◌, All, length, get_or}
use Rattle.std.proofs.Common.{map, sym, ap, ◌∙◌, subst, inl, inr, arith, eq-eqb, ne_eqb, lt-ltb, ltb, Option, Some}
use Rattle.std.proofs.Common.{None, Result, Ok, Err, position}
use Rattle.std.specs.List.{position_or_len}
use Rattle.std.specs.List.Sorted.{IsStrictlyIncreasing, IsNonDecreasingBy, IsBinarySearchResult, IsSearchInRange}
use Rattle.std.specs.Ordering.{nat_cmp, ordering_index}
use Rattle.std.specs.Result.{result_ok}
use Rattle.std.proofs.lemmas.Bool.{cases_lt}
use Rattle.std.proofs.lemmas.Bool.Decides.{nat_tests}
use Rattle.std.proofs.lemmas.Cmp.{ranked}
use Rattle.std.proofs.lemmas.List.{get_or-map, length-map}
use Rattle.std.proofs.lemmas.List.Elements.{All-head, All-tail}
use Rattle.std.proofs.lemmas.List.Sorted.{IsNonDecreasingBy-from_default}
use Rattle.std.proofs.lemmas.List.Sums.{position_or_len_is}
use Rattle.std.proofs.lemmas.Map.Keys.{sorted_from_strictly_increasing, below_from_sorted}
use native.Mathlib.Decide.{ℕ_discrete}
use mathlib.Core.Logic.{dite}
use Rattle.cell_bits.specs.declared.jobs.Job.{Job}
use Rattle.cell_bits.specs.Jobs.{no_job, job_at, ArenasAscend}

-- no job, and one more before jobs of higher arenas
pub ascend-nil : ArenasAscend []
ascend-nil = record { below = λ i k lt in_range. absurd (omega arith) }

pub ascend-cons : (job : Job) (jobs : List Job) → ((k : ℕ) → k < length jobs → job.arena < (job_at jobs k).arena)
    → ArenasAscend jobs → ArenasAscend (job ∷ jobs)
ascend-cons job jobs first rest = record { below = by } where
  by : (i k : ℕ) → i < k → k < length (job ∷ jobs) → (job_at (job ∷ jobs) i).arena < (job_at (job ∷ jobs) k).arena
  by zero zero lt in_range = absurd (omega arith)
  by zero (suc k) lt in_range = first k (omega arith)
  by (suc i) zero lt in_range = absurd (omega arith)
  by (suc i) (suc k) lt in_range = rest.below i k (omega arith) (omega arith)

-- one more behind jobs of lower arenas
pub ascend-push : (jobs : List Job) (job : Job) → ArenasAscend jobs → All (λ (j : Job). j.arena < job.arena) jobs
    → ArenasAscend (jobs ++ job ∷ [])
ascend-push [] job up lower = ascend-cons job [] (λ k lt. absurd (omega arith)) ascend-nil
ascend-push (j ∷ jobs) job up lower =
    let rest : ArenasAscend jobs =
    record { below = λ i k lt in_range. up.below (suc i) (suc k) (omega arith) (omega arith) } in
    ascend-cons j (jobs ++ job ∷ [])
    (first jobs (λ k in_range. up.below 0 (suc k) (omega arith) (omega arith))
    (All-head (λ (i : Job). i.arena < job.arena) j jobs lower))
    (ascend-push jobs job rest (All-tail (λ (i : Job). i.arena < job.arena) j jobs lower))
  where
    first : (js : List Job) → ((k : ℕ) → k < length js → j.arena < (job_at js k).arena) → j.arena < job.arena → (k : ℕ)
        → k < length (js ++ job ∷ []) → j.arena < (job_at (js ++ job ∷ []) k).arena
    first [] low last zero lt = last
    first [] low last (suc k) lt = absurd (omega arith)
    first (x ∷ xs) low last zero lt = low 0 (omega arith)
    first (x ∷ xs) low last (suc k) lt = first xs (λ n in_range. low (suc n) (omega arith)) last k (omega arith)

-- the same from std's word on the list of the arenas
pub ascend-from_increasing : (jobs : List Job) → IsStrictlyIncreasing (map (λ job. job.arena) jobs) → ArenasAscend jobs
ascend-from_increasing jobs up = record {
  below = λ i k lt in_range.
      let numbers : List ℕ = map (λ (job : Job). job.arena) jobs in
      let long : length numbers ≡ length jobs = length-map jobs (λ (job : Job). job.arena) in
      let a : get_or numbers i 0 ≡ (job_at jobs i).arena =
      get_or-map (λ (job : Job). job.arena) jobs i no_job 0 (omega arith) in
      let b : get_or numbers k 0 ≡ (job_at jobs k).arena =
      get_or-map (λ (job : Job). job.arena) jobs k no_job 0 in_range in
      let c : get_or numbers i 0 < get_or numbers k 0 =
      below_from_sorted numbers i k 0 (sorted_from_strictly_increasing numbers up) lt (omega arith) in
      omega arith;
}

module _ (jobs : List Job) (up : ArenasAscend jobs) where
  -- an arena stands at one place
  pub place_of : (i arena : ℕ) → i < length jobs → (job_at jobs i).arena ≡ arena
      → position (λ job. eqb job.arena arena) jobs ≡ Some i
  place_of i arena lt is =
      let first : position_or_len (λ job. eqb job.arena arena) jobs ≡ i =
      position_or_len_is (λ (job : Job). eqb job.arena arena) jobs i no_job (omega arith)
      (λ k before. ne_eqb (job_at jobs k).arena arena (λ e. let b = up.below k i before lt in omega arith))
      (λ _. eq-eqb (job_at jobs i).arena arena is) in
      ap (λ (n : ℕ). cond {A = Option ℕ} (ltb n (length jobs)) (Some n) None) first
      ∙ ap (λ (b : Bool). cond {A = Option ℕ} b (Some i) None) (lt-ltb i (length jobs) lt)

  comparisons_rise : (arena : ℕ) → IsNonDecreasingBy (λ job. ordering_index (nat_cmp job.arena arena)) jobs
  comparisons_rise arena = IsNonDecreasingBy-from_default (λ job. ordering_index (nat_cmp job.arena arena)) jobs no_job
      (λ i j le in_range.
      let rise : (job_at jobs i).arena ≤ (job_at jobs j).arena =
      dite (ℕ_discrete i j) (λ e. let same = ap (λ (n : ℕ). (job_at jobs n).arena) e in omega arith)
      (λ ne. let b = up.below i j (omega arith) in_range in omega arith) in
      grind (arith, nat_tests))

  -- an arena that no job has stands at no place
  no_place : (arena : ℕ) → ((k : ℕ) → k < length jobs → (job_at jobs k).arena ≡ arena → ⊥)
      → position (λ job. eqb job.arena arena) jobs ≡ None
  no_place arena none =
      let last : position_or_len (λ job. eqb job.arena arena) jobs ≡ length jobs =
      position_or_len_is (λ (job : Job). eqb job.arena arena) jobs (length jobs) no_job (omega arith)
      (λ k in_range. ne_eqb (job_at jobs k).arena arena (none k in_range))
      (λ lt. absurd (omega arith)) in
      grind (arith, nat_tests)

  searched : (arena : ℕ) (r : Result ℕ ℕ) → IsSearchInRange r (length jobs)
      → IsBinarySearchResult (λ job. nat_cmp job.arena arena) jobs r → position (λ job. eqb job.arena arena) jobs
      ≡ result_ok r
  searched arena (Ok i) in_range equal = place_of i arena in_range (ranked _ arena _ (sym (equal no_job)))
  searched arena (Err i) in_range parted = no_place arena (λ k lt same.
      let p = parted (comparisons_rise arena) in
      elim (cases_lt k i) [
        | inl before ↦ (let lower : (job_at jobs k).arena < arena =
            ranked _ arena _ (sym (p.0 k no_job (omega arith) before)) in omega arith)
        | inr after ↦ (let higher : arena < (job_at jobs k).arena = ranked _ arena _ (sym (p.1 k no_job after lt)) in
            omega arith)
      ])

  -- a binary search by the arena, over the same jobs, answers its place
  pub found : (arena : ℕ) (r : Result ℕ ℕ) (js : List Job) → js ≡ jobs → IsSearchInRange r (length js)
      → IsBinarySearchResult (λ job. nat_cmp job.arena arena) js r → position (λ job. eqb job.arena arena) jobs
      ≡ result_ok r
  found arena r js same in_range by =
      searched arena r (subst (λ (l : List Job). IsSearchInRange r (length l)) same in_range)
      (subst (λ (l : List Job). IsBinarySearchResult (λ job. nat_cmp job.arena arena) l r) same by)
