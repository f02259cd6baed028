-- The arena that is due is the lowest that is out, whoever sweeps: taking it in is a unit.
use Rattle.std.proofs.Common.{◌≡◌, ◌≢◌, ◌↔◌, ℕ, ◌<◌, ◌≤◌, Bool, true, false, List, [], ◌∷◌, Option, Some, None, IsTrue}
use Rattle.std.proofs.Common.{is_some, ap, sym, ◌∙◌, subst, arith, eqb, if◌then◌else◌, inl, inr}
use Rattle.std.specs.List.{Contains}
use Rattle.std.proofs.lemmas.Bool.{cases_lt}
use Rattle.gz_names.specs.declared.replies.Report.{Report}
use Rattle.cell_bits.specs.declared.bits.Bits.{Bits}
use Rattle.cell_bits.specs.declared.jobs.Job.{Job}
use Rattle.cell_bits.specs.declared.jobs.Taken.{Taken}
use Rattle.sweeping.specs.ArenasOut.{AllAbove, Ascend, AscendHanded, TakesLowest, outs_after, outs_of, swept}
use Rattle.colour_defs.proofs.Lists.{contains_head, contains_tail, contains_cases, nothing_in_none}
use Rattle.heap_core.specs.Shape.{Shape, out_of}
use Rattle.slice_driver.specs.Advances.{AreOut}
use Rattle.slice_driver.specs.Collector.{CollectorState}
use Rattle.slice_driver.specs.Left.{units_left}
use Rattle.slice_driver.specs.Units.{AreAscendingJobs, AreJobsOf, DoesUnit, HandsJobs, IsFreedWord, IsLowestOut}
use Rattle.slice_driver.specs.Units.{IsSound, KeepsFreedWords, without_arena}
use Rattle.slice_driver.specs.UnitsToCome.{units_to_come}
use Rattle.slice_driver.specs.Worlds.{IsInFlight}
use Rattle.slice_driver.proofs.abstraction.Phases.{swept_of}

no_out : {X : Type 0} (o : Option X) → is_some o ≡ true → o ≡ None → ⊥
no_out o some none = cc (some, none)

-- while an arena is due, some arena is out
pub due_flies : (d : CollectorState) (f : ℕ → Option Bits) (a : ℕ) → IsSound d f → IsLowestOut d.heap.shape a
    → ((b : ℕ) → f b ≡ None) → ⊥
due_flies d f a s low none = no_out (f a) ((swept_of d f s.world s.represents).flies.covers a ∙ low.out) (none a)

pub some_left : (b : Bool) (outs : List (ℕ × ℕ)) → IsTrue b ↔ (outs ≡ []) → b ≡ false → outs ≢ []
some_left b outs h e none = let t : b ≡ true = h.1 none in cc (t, e)

module _ (d : CollectorState) (f g : ℕ → Option Bits) (outs rest : List (ℕ × ℕ)) (a : ℕ) (taken : Taken)
    (s : IsSound d f) (low : IsLowestOut d.heap.shape a) (are : AreOut d.heap.shape outs)
    (takes : TakesLowest outs rest f g taken) where
  flies : IsInFlight d.heap.shape f
  flies = (swept_of d f s.world s.represents).flies

  -- the arena that the flight takes is the one that is due
  arena_is : takes.arena ≡ a
  arena_is =
      let at_most : takes.arena ≤ a = takes.lowest a (flies.covers a ∙ low.out) in
      elim (cases_lt takes.arena a) [
        | inl less ↦ absurd (no_out (out_of d.heap.shape takes.arena)
            (sym (flies.covers takes.arena) ∙ ap is_some takes.bits) (low.lowest takes.arena less))
        | inr from ↦ omega (arith, at_most, from)
      ]

  pub due_freed : IsFreedWord d.heap.shape a taken.freed
  due_freed = subst (λ (n : ℕ). IsFreedWord d.heap.shape n taken.freed) arena_is
      (are.freed takes.arena taken.freed (subst (λ (xs : List (ℕ × ℕ)). Contains xs (takes.arena, taken.freed))
      (sym takes.first) (contains_head (takes.arena, taken.freed) rest)))

  due_bits : f a ≡ Some taken.bits
  due_bits = ap f (sym arena_is) ∙ takes.bits

  left_is : (b : ℕ) → without_arena f a b ≡ g b
  left_is b = sym (takes.others b ∙ ap (λ (n : ℕ). if eqb b n then None else f b) arena_is)

  same : without_arena f a ≡ g
  same = λ i b. left_is b i

  pub due_does : (e : CollectorState) (reports : List Report)
      → ((flown : ℕ → Option Bits) → flown a ≡ Some taken.bits → DoesUnit d flown reports e (without_arena flown a))
      → DoesUnit d f reports e g
  due_does e reports does = subst (λ (h : ℕ → Option Bits). DoesUnit d f reports e h) same (does f due_bits)

  pub due_keeps : (e : CollectorState)
      → ((flown : ℕ → Option Bits) → IsSound d flown → flown a ≡ Some taken.bits → IsSound e (without_arena flown a))
      → IsSound e g
  due_keeps e keeps = subst (λ (h : ℕ → Option Bits). IsSound e h) same (keeps f s due_bits)

  pub due_lowers : (e : CollectorState)
      → ((flown : ℕ → Option Bits) → IsSound d flown → flown a ≡ Some taken.bits
      → units_left e (without_arena flown a) < units_left d flown) → units_left e g < units_left d f
  due_lowers e falls = subst (λ (h : ℕ → Option Bits). units_left e h < units_left d f) same (falls f s due_bits)

  pub due_to_come : (e : CollectorState)
      → ((flown : ℕ → Option Bits) → IsSound d flown → flown a ≡ Some taken.bits
      → units_to_come e (without_arena flown a) ≤ units_to_come d flown) → units_to_come e g ≤ units_to_come d f
  due_to_come e keeps = subst (λ (h : ℕ → Option Bits). units_to_come e h ≤ units_to_come d f) same
      (keeps f s due_bits)

  pub due_out : (e : CollectorState) → KeepsFreedWords d.heap.shape e.heap.shape → AreOut e.heap.shape rest
  due_out e keeps = record {
    freed = λ b free c. keeps b free
        (are.freed b free (subst (λ (xs : List (ℕ × ℕ)). Contains xs (b, free)) (sym takes.first)
        (contains_tail (takes.arena, taken.freed) rest (b, free) c)));
  }

-- arenas that stay out
pub out_kept : (s t : Shape) (old new : List (ℕ × ℕ)) → new ≡ old → KeepsFreedWords s t → AreOut s old → AreOut t new
out_kept s t old new e keeps are = record {
  freed = λ b free c. keeps b free (are.freed b free (subst (λ (xs : List (ℕ × ℕ)). Contains xs (b, free)) e c));
}

pub out_none : (s : Shape) → AreOut s []
out_none s = record { freed = λ b free c. absurd (nothing_in_none (b, free) c) }

-- the job of an arena that is out
out_has : (jobs : List Job) (p : ℕ × ℕ) → Contains (outs_of jobs) p → (job : Job) × Contains jobs job × (swept job ≡ p)
out_has [] p c = absurd (nothing_in_none p c)
out_has (job ∷ jobs) p c = elim (contains_cases (swept job) (outs_of jobs) p c) [
  | inl same ↦ (job, contains_head job jobs, same)
  | inr more ↦ (let r = out_has jobs p more in (r.0, contains_tail job jobs r.0 r.1, r.2))
]

-- arenas that were handed out
out_jobs : (t : Shape) (jobs : List Job) → AreJobsOf t jobs → AreOut t (outs_of jobs)
out_jobs t jobs are = record {
  freed = λ b free c.
      let r = out_has jobs (b, free) c in
      subst (λ (p : ℕ × ℕ). IsFreedWord t p.0 p.1) r.2 (are.freed r.0 r.1);
}

pub out_handed : (s t : Shape) (handed : Option (List Job)) (old new : List (ℕ × ℕ)) → new ≡ old → HandsJobs handed s t
    → AreOut s old → AreOut t (outs_after handed new)
out_handed s t None old new e hands are = out_kept s t old new e hands are
out_handed s t (Some jobs) old new e hands are = out_jobs t jobs hands

-- and they ascend
all_above : (a : ℕ) (jobs : List Job) → ((other : Job) → Contains jobs other → a < other.arena)
    → AllAbove a (outs_of jobs)
all_above a [] above = tt
all_above a (job ∷ jobs) above = (
  above job (contains_head job jobs),
  all_above a jobs (λ x c. above x (contains_tail job jobs x c)),
)

ascend_jobs : (jobs : List Job) → AreAscendingJobs jobs → Ascend (outs_of jobs)
ascend_jobs [] up = tt
ascend_jobs (job ∷ jobs) up = (all_above job.arena jobs up.0, ascend_jobs jobs up.1)

pub ascend_handed : (s t : Shape) (handed : Option (List Job)) → HandsJobs handed s t → AscendHanded handed
ascend_handed s t None hands = tt
ascend_handed s t (Some jobs) hands = ascend_jobs jobs hands.ascending
