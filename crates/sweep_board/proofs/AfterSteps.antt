-- What a seat has after the first steps of a call.
use Rattle.std.proofs.Common.{◌≡◌, ℕ, zero, suc, ◌<◌, List, [], ◌∷◌, length, get_or, refl, sym, ap, subst, eqb, eq-eqb}
use Rattle.std.proofs.Common.{MatchBool, ◌∙◌, arith}
use Rattle.cell_bits.specs.declared.jobs.Job.{Job}
use Rattle.sweep_board.specs.declared.view.Stage.TheVariants.{Claimed, LoadedBlack, LoadedBoth, StoredFreed}
use Rattle.cell_bits.specs.Jobs.{job_at}
use Rattle.sweep_board.specs.Views.{at_stage, with_done}
use Rattle.sweep_board.specs.Steps.{BoardSeat, arena_of, black_of}

pub after_black : (m m' : BoardSeat) (i b : ℕ) → m' ≡ (at_stage m.0 (LoadedBlack (arena_of m.0.stage) b), m.1)
    → m.0.stage ≡ Claimed i → m'.0.stage ≡ LoadedBlack i b
after_black m m' i b e is = ap (λ (x : BoardSeat). x.0.stage) e ∙ ap (λ (n : ℕ). LoadedBlack n b) (ap arena_of is)

pub after_gob : (m m' : BoardSeat) (i b g : ℕ)
    → m' ≡ (at_stage m.0 (LoadedBoth (arena_of m.0.stage) (black_of m.0.stage) g), m.1) → m.0.stage ≡ LoadedBlack i b
    → m'.0.stage ≡ LoadedBoth i b g
after_gob m m' i b g e is = ap (λ (x : BoardSeat). x.0.stage) e
    ∙ (λ p. LoadedBoth (arena_of (is p)) (black_of (is p)) g)

pub after_store : (m m' : BoardSeat) (i b g : ℕ) → m' ≡ (at_stage m.0 (StoredFreed (arena_of m.0.stage)), m.1)
    → m.0.stage ≡ LoadedBoth i b g → m'.0.stage ≡ StoredFreed i
after_store m m' i b g e is = ap (λ (x : BoardSeat). x.0.stage) e ∙ ap (λ (n : ℕ). StoredFreed n) (ap arena_of is)

pub jobs_black : (m m' : BoardSeat) (b : ℕ) → m' ≡ (at_stage m.0 (LoadedBlack (arena_of m.0.stage) b), m.1)
    → m'.0.jobs ≡ m.0.jobs
jobs_black m m' b e = ap (λ (x : BoardSeat). x.0.jobs) e

pub jobs_gob : (m m' : BoardSeat) (g : ℕ)
    → m' ≡ (at_stage m.0 (LoadedBoth (arena_of m.0.stage) (black_of m.0.stage) g), m.1) → m'.0.jobs ≡ m.0.jobs
jobs_gob m m' g e = ap (λ (x : BoardSeat). x.0.jobs) e

-- the job that was read
pub job_read : (js ks : List Job) (i : ℕ) (j : Job) → i < length js → j ≡ get_or js i j → ks ≡ js → job_at ks i ≡ j
job_read [] ks i j lt e same = absurd (omega arith)
job_read (x ∷ xs) ks zero j lt e same = ap (λ (l : List Job). job_at l 0) same ∙ sym e
job_read (x ∷ xs) ks (suc i) j lt e same = ap (λ (l : List Job). job_at l (suc i)) same
    ∙ job_read xs xs i j (omega arith) e refl

-- main's seat after it saw an arena done
pub after_look : (m m' : BoardSeat) (i n : ℕ) (Q : Type 0) → MatchBool (eqb n 2) (m' ≡ (with_done m.0 i, m.1)) Q → n ≡ 2
    → m' ≡ (with_done m.0 i, m.1)
after_look m m' i n Q h two = subst (λ b. MatchBool b (m' ≡ (with_done m.0 i, m.1)) Q) (eq-eqb n 2 two) h
