-- Arenas that are out, and what taking the lowest in leaves.
use Rattle.std.specs.Prelude.{◌≡◌, ◌==◌, ◌<◌, ◌≤◌, ℕ, List, [], ◌∷◌, map, Option, Some, None, IsSome, if◌then◌else◌, ⊤}
use Rattle.cell_bits.specs.Colours.{white_mask_of}
use Rattle.cell_bits.specs.declared.bits.Bits.{Bits}
use Rattle.cell_bits.specs.declared.jobs.Job.{Job}
use Rattle.cell_bits.specs.declared.jobs.Taken.{Taken}

-- the slots of the white cells in a job's arena
abbrev pub white_of : Job → ℕ
white_of job = white_mask_of job.bits job.alloc_word

-- a job's arena, and the slots to free in it
abbrev pub swept : Job → ℕ × ℕ
swept job = (job.arena, white_of job)

abbrev pub outs_of : List Job → List (ℕ × ℕ)
outs_of jobs = map swept jobs

-- the bits of jobs, by arena
abbrev pub flown_by : List Job → ℕ → Option Bits
flown_by [] a = None
flown_by (job ∷ jobs) a = if job.arena == a then Some job.bits else flown_by jobs a

-- the arenas ascend
abbrev pub AllAbove : ℕ → List (ℕ × ℕ) → Type 0
AllAbove a [] = ⊤
AllAbove a (out ∷ outs) = (a < out.0) × AllAbove a outs

abbrev pub Ascend : List (ℕ × ℕ) → Type 0
Ascend [] = ⊤
Ascend (out ∷ outs) = AllAbove out.0 outs × Ascend outs

-- the lowest arena was taken in: its freed word is that of hand-out, its bits are what the flight held for it, and
-- the flight holds all others on, which are above it
pub record TakesLowest (old new : List (ℕ × ℕ)) (held now : ℕ → Option Bits) (taken : Taken) : Type 0 where
  pub arena : ℕ
  pub first : old ≡ (arena, taken.freed) ∷ new
  pub bits : held arena ≡ Some taken.bits
  pub lowest : (a : ℕ) → IsSome (held a) → arena ≤ a
  pub others : (a : ℕ) → now a ≡ (if a == arena then None else held a)

-- what is out, and what flies, after jobs were handed out, or none
abbrev pub outs_after : Option (List Job) → List (ℕ × ℕ) → List (ℕ × ℕ)
outs_after None outs = outs
outs_after (Some jobs) outs = outs_of jobs

abbrev pub flying_after : Option (List Job) → (ℕ → Option Bits) → ℕ → Option Bits
flying_after None flown = flown
flying_after (Some jobs) flown = flown_by jobs

-- the arenas of jobs that were handed out ascend
abbrev pub AscendHanded : Option (List Job) → Type 0
AscendHanded None = ⊤
AscendHanded (Some jobs) = Ascend (outs_of jobs)
