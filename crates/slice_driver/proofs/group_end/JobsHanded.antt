-- The jobs that are handed to sweeping.
use Rattle.std.proofs.Common.{◌≡◌, ◌+◌, ℕ, suc, Bool, true, false, cond, Option, None, Some, List, [], ◌∷◌, slice_get}
use Rattle.std.proofs.Common.{Contains, refl, sym, ap, subst, ◌∙◌, inl, inr, arith}
use Rattle.cell_bits.specs.Colours.{white_mask_of}
use Rattle.cell_bits.specs.declared.bits.Bits.{Bits}
use Rattle.cell_bits.specs.declared.jobs.Job.{Job}
use Rattle.arena_table.specs.Indexed.{in_zones}
use Rattle.arena_table.specs.Slots.{alloc_word_of}
use Rattle.colour_defs.proofs.Lists.{contains_cases, nothing_in_none}
use Rattle.heap_core.specs.Shape.{ArenaShape, Shape, out_in, out_of}
use Rattle.heap_core.specs.Sweeping.{handed, jobs_of}
use Rattle.slice_driver.specs.Units.{AreAscendingJobs, AreJobs, AreJobsOf, HandsJobs, flown_by}
use Rattle.slice_driver.proofs.abstraction.Named.{some_one}

-- a job is that of an arena which is handed out
pub record IsJobAt (word n : ℕ) (arenas : List ArenaShape) (colours : List Bits) (job : Job) : Type 0 where
  pub index : ℕ
  pub arena : ArenaShape
  pub number : job.arena ≡ n + index
  pub there : slice_get (handed word arenas colours) index ≡ Some (record arena { out = Some job.bits })
  pub word_is : job.alloc_word ≡ alloc_word_of arena.slots

pub job_at : (word n : ℕ) (arenas : List ArenaShape) (colours : List Bits) (job : Job)
    → Contains (jobs_of word n arenas colours) job → IsJobAt word n arenas colours job
job_at word n [] colours job c = absurd (nothing_in_none job c)
job_at word n (arena ∷ arenas) [] job c = absurd (nothing_in_none job c)
job_at word n (arena ∷ arenas) (bits ∷ colours) job c =
    go (λ more. job_at word (suc n) arenas colours job more) (in_zones word arena.zone) refl c
  where
    first : Job
    first = record { arena = n; alloc_word = alloc_word_of arena.slots; bits = bits }

    later : IsJobAt word (suc n) arenas colours job → IsJobAt word n (arena ∷ arenas) (bits ∷ colours) job
    later r =
        record {
          index = suc r.index;
          arena = r.arena;
          number = omega (arith, r.number);
          there = r.there;
          word_is = r.word_is;
        }

    go : (Contains (jobs_of word (suc n) arenas colours) job → IsJobAt word (suc n) arenas colours job) → (t : Bool)
        → in_zones word arena.zone ≡ t
        → Contains (cond t (first ∷ jobs_of word (suc n) arenas colours) (jobs_of word (suc n) arenas colours)) job
        → IsJobAt word n (arena ∷ arenas) (bits ∷ colours) job
    go f false e c = later (f c)
    go f true e c = elim (contains_cases first (jobs_of word (suc n) arenas colours) job c) [
      | inr more ↦ later (f more)
      | inl is ↦ record {
        index = 0;
        arena = arena;
        number = (let zero_more : n ≡ n + 0 = omega arith in sym (ap (λ (j : Job). j.arena) is) ∙ zero_more);
        there = ap (λ (t : Bool). Some (cond t (record arena { out = Some bits }) arena)) e
            ∙ ap (λ (b : Bits). Some (record arena { out = Some b })) (ap (λ (j : Job). j.bits) is);
        word_is = sym (ap (λ (j : Job). j.alloc_word) is);
      }
    ]

ascends : (word n : ℕ) (arenas : List ArenaShape) (colours : List Bits)
    → AreAscendingJobs (jobs_of word n arenas colours)
ascends word n [] colours = tt
ascends word n (arena ∷ arenas) [] = tt
ascends word n (arena ∷ arenas) (bits ∷ colours) = go (in_zones word arena.zone) (ascends word (suc n) arenas colours)
  where
    go : (t : Bool) → AreAscendingJobs (jobs_of word (suc n) arenas colours)
        → AreAscendingJobs (cond t (record { arena = n; alloc_word = alloc_word_of arena.slots; bits = bits }
        ∷ jobs_of word (suc n) arenas colours) (jobs_of word (suc n) arenas colours))
    go false rest = rest
    go true rest = (λ other c. (let r = job_at word (suc n) arenas colours other c in omega (arith, r.number)), rest)

handed_jobs : (t : Shape) (word : ℕ) (arenas : List ArenaShape) (colours : List Bits)
    → t.arenas ≡ handed word arenas colours → AreJobsOf t (jobs_of word 0 arenas colours)
handed_jobs t word arenas colours e = record {
  ascending = ascends word 0 arenas colours;
  freed = λ job c arena bits at out. (
      let r = job_at word 0 arenas colours job c in
      let same : job.arena ≡ r.index = omega (arith, r.number) in
      let there : slice_get t.arenas job.arena ≡ Some (record r.arena { out = Some job.bits }) =
      ap (λ (xs : List ArenaShape). slice_get xs job.arena) e
      ∙ (ap (slice_get (handed word arenas colours)) same ∙ r.there) in
      let is : record r.arena { out = Some job.bits } ≡ arena = some_one _ _ (sym there ∙ at) in
      let slots : r.arena.slots ≡ arena.slots = ap (λ (a : ArenaShape). a.slots) is in
      let bits_are : job.bits ≡ bits = some_one _ _ (ap (λ (a : ArenaShape). a.out) is ∙ out) in
      ap (λ (b : Bits). white_mask_of b job.alloc_word) bits_are
      ∙ ap (white_mask_of bits) (r.word_is ∙ ap alloc_word_of slots)
      );
}

pub hands_jobs : (s t : Shape) (word : ℕ) (arenas : List ArenaShape) (colours : List Bits) (jobs : Option (List Job))
    → t.arenas ≡ handed word arenas colours → AreJobs jobs (jobs_of word 0 arenas colours)
    → ((a : ℕ) → flown_by (jobs_of word 0 arenas colours) a ≡ out_of t a) → HandsJobs jobs s t
hands_jobs s t word arenas colours None e none flies = λ a freed was arena bits at out.
    absurd (let some : out_of t a ≡ Some bits = ap out_in at ∙ out in let no : None ≡ out_of t a =
    sym (ap (λ (js : List Job). flown_by js a) none) ∙ flies a in cc (some, no))
hands_jobs s t word arenas colours (Some jobs) e is flies = subst (λ (js : List Job). AreJobsOf t js) (sym is.0)
    (handed_jobs t word arenas colours e)
