-- Jobs in the order of their arenas.
use Rattle.std.specs.Prelude.{ℕ, ◌<◌, List, length, slice_index_or}
use Rattle.cell_bits.specs.declared.jobs.Job.{Job}

-- a job that no list has, for an index past the end
abbrev pub no_job : Job
no_job = record { arena = 0; alloc_word = 0; bits = record { black = 0; gob = 0 } }

abbrev pub job_at : List Job → ℕ → Job
job_at jobs i = slice_index_or jobs i no_job

-- the jobs' arenas ascend, and none stands twice
pub record ArenasAscend (jobs : List Job) : Type 0 where
  pub below : (i k : ℕ) → i < k → k < length jobs → (job_at jobs i).arena < (job_at jobs k).arena
