-- Jobs whose arenas ascend may lie on a board.
use Rattle.std.proofs.Common.{ℕ, zero, suc, ◌<◌, List, [], ◌∷◌, length, arith}
use Rattle.cell_bits.specs.declared.jobs.Job.{Job}
use Rattle.cell_bits.specs.Jobs.{ArenasAscend, job_at}
use Rattle.sweeping.specs.ArenasOut.{AllAbove, Ascend, outs_of}

above_at : (a : ℕ) (jobs : List Job) (k : ℕ) → AllAbove a (outs_of jobs) → k < length jobs → a < (job_at jobs k).arena
above_at a [] k above lt = absurd (omega arith)
above_at a (job ∷ jobs) zero above lt = above.0
above_at a (job ∷ jobs) (suc k) above lt = above_at a jobs k above.1 (omega arith)

below_at : (jobs : List Job) (i k : ℕ) → Ascend (outs_of jobs) → i < k → k < length jobs
    → (job_at jobs i).arena < (job_at jobs k).arena
below_at [] i k up lt in_range = absurd (omega arith)
below_at (job ∷ jobs) i zero up lt in_range = absurd (omega arith)
below_at (job ∷ jobs) zero (suc k) up lt in_range = above_at job.arena jobs k up.0 (omega arith)
below_at (job ∷ jobs) (suc i) (suc k) up lt in_range = below_at jobs i k up.1 (omega arith) (omega arith)

pub ascend_jobs : (jobs : List Job) → Ascend (outs_of jobs) → ArenasAscend jobs
ascend_jobs jobs up = record { below = λ i k lt in_range. below_at jobs i k up lt in_range }
