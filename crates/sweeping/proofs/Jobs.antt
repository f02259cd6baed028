-- The jobs that are left: where one lies, what a wake of its bits changes, and what taking the first leaves.
use Rattle.std.proofs.Common.{◌≡◌, ℕ, zero, suc, ◌+◌, ◌<◌, ◌≤◌, Bool, true, false, not, List, [], ◌∷◌, length, get_or}
use Rattle.std.proofs.Common.{set, map, drop, Option, Some, None, IsSome, refl, ap, sym, ◌∙◌, subst, arith, eqb, ltb}
use Rattle.std.proofs.Common.{cond, max, bit_and, w64, ne_eqb}
use Rattle.std.specs.Prelude.{bit_or, IsSomeAnd}
use Rattle.std.specs.List.{position, position_or_len}
use Rattle.std.specs.Int.{bit_at, bit_not}
use Rattle.std.proofs.lemmas.Nat.Bits.{bit_at_or, same_from_bits}
use Rattle.std.proofs.lemmas.List.{drop-set-add, get_or-drop}
use Rattle.std.proofs.lemmas.List.Quantifiers.{position-Some}
use Rattle.std.proofs.lemmas.Bool.{eqb-true, eq-eqb, lt-ltb}
use Rattle.cell_bits.specs.Colours.{woken_bits}
use Rattle.cell_bits.specs.declared.bits.Bits.{Bits}
use Rattle.cell_bits.specs.declared.jobs.Job.{Job}
use Rattle.sweeping.specs.ArenasOut.{AllAbove, Ascend, flown_by, outs_of, swept, white_of}

max_assoc : (a b c : ℕ) → max (max a b) c ≡ max a (max b c)
max_assoc a b c = omega arith

or_assoc : (a b c : ℕ) → bit_or (bit_or a b) c ≡ bit_or a (bit_or b c)
or_assoc a b c = same_from_bits _ _ (λ i.
    bit_at_or (bit_or a b) c i ∙ ap (λ (n : ℕ). max n (bit_at c i)) (bit_at_or a b i)
    ∙ max_assoc (bit_at a i) (bit_at b i) (bit_at c i)
    ∙ sym (bit_at_or a (bit_or b c) i ∙ ap (λ (n : ℕ). max (bit_at a i) n) (bit_at_or b c i)))

-- the bits of the first job of an arena
pub flown_at : (jobs : List Job) (arena i : ℕ) (d : Job) → i < length jobs → eqb (get_or jobs i d).arena arena ≡ true
    → ((k : ℕ) → k < i → eqb (get_or jobs k d).arena arena ≡ false) → flown_by jobs arena ≡ Some (get_or jobs i d).bits
flown_at [] arena i d lt e first = absurd (omega arith)
flown_at (job ∷ jobs) arena zero d lt e first = rw e refl
flown_at (job ∷ jobs) arena (suc i) d lt e first =
    rw (first 0 (omega arith)) (flown_at jobs arena i d (omega arith) e (λ k less. first (suc k) (omega arith)))

-- a job with its slots of a mask black
abbrev pub woken_job : ℕ → Job → Job
woken_job mask job = record job { bits = record job.bits { black = bit_or job.bits.black mask } }

-- the first job of an arena is woken
pub flown_woken : (jobs : List Job) (arena i mask : ℕ) (d : Job) → i < length jobs
    → eqb (get_or jobs i d).arena arena ≡ true → ((k : ℕ) → k < i → eqb (get_or jobs k d).arena arena ≡ false) → (a : ℕ)
    → flown_by (set jobs i (woken_job mask (get_or jobs i d))) a ≡ woken_bits (eqb a arena) mask (flown_by jobs a)
flown_woken [] arena i mask d lt e first a = absurd (omega arith)
flown_woken (job ∷ jobs) arena zero mask d lt e first a = by (eqb job.arena a) refl (eqb a arena) refl
  where
    by : (b : Bool) → eqb job.arena a ≡ b → (t : Bool) → eqb a arena ≡ t
        → cond b (Some (woken_job mask job).bits) (flown_by jobs a)
        ≡ woken_bits t mask (cond b (Some job.bits) (flown_by jobs a))
    by true h true k = refl
    by true h false k = absurd (let same : a ≡ arena = sym (eqb-true job.arena a h) ∙ eqb-true job.arena arena e in
        let t = eq-eqb a arena same in cc (t, k))
    by false h true k = absurd (let same : job.arena ≡ a = eqb-true job.arena arena e ∙ sym (eqb-true a arena k) in
        let t = eq-eqb job.arena a same in cc (t, h))
    by false h false k = refl
flown_woken (job ∷ jobs) arena (suc i) mask d lt e first a =
    by (eqb job.arena a) refl (eqb a arena) refl
    (flown_woken jobs arena i mask d (omega arith) e (λ k less. first (suc k) (omega arith)) a)
  where
    by : (b : Bool) → eqb job.arena a ≡ b → (t : Bool) → eqb a arena ≡ t
        → flown_by (set jobs i (woken_job mask (get_or jobs i d))) a ≡ woken_bits (eqb a arena) mask (flown_by jobs a)
        → cond b (Some job.bits) (flown_by (set jobs i (woken_job mask (get_or jobs i d))) a)
        ≡ woken_bits t mask (cond b (Some job.bits) (flown_by jobs a))
    by true h true k rest =
        absurd (let same : job.arena ≡ arena = eqb-true job.arena a h ∙ eqb-true a arena k in
        let t = eq-eqb job.arena arena same in let f = first 0 (omega arith) in cc (t, f))
    by true h false k rest = refl
    by false h true k rest = rest ∙ ap (λ (t : Bool). woken_bits t mask (flown_by jobs a)) k
    by false h false k rest = rest ∙ ap (λ (t : Bool). woken_bits t mask (flown_by jobs a)) k

-- a wake leaves the white slots
pub outs_woken : (jobs : List Job) (i : ℕ) (d job : Job) → i < length jobs → job.arena ≡ (get_or jobs i d).arena
    → white_of job ≡ white_of (get_or jobs i d) → outs_of (set jobs i job) ≡ outs_of jobs
outs_woken [] i d job lt e k = refl
outs_woken (j ∷ jobs) zero d job lt e k = cc (e, k)
outs_woken (j ∷ jobs) (suc i) d job lt e k =
    ap (λ (xs : List (ℕ × ℕ)). swept j ∷ xs) (outs_woken jobs i d job (omega arith) e k)

-- a wake of gray slots
pub whites_woken : (mask : ℕ) (job : Job) → bit_or mask job.bits.gob ≡ job.bits.gob
    → white_of (woken_job mask job) ≡ white_of job
whites_woken mask job gray =
    ap (λ (n : ℕ). bit_and job.alloc_word (bit_not w64 n))
    (or_assoc job.bits.black mask job.bits.gob ∙ ap (bit_or job.bits.black) gray)

-- an arena below all others is in flight no more
pub none_above : (jobs : List Job) (a : ℕ) → AllAbove a (outs_of jobs) → flown_by jobs a ≡ None
none_above [] a above = refl
none_above (job ∷ jobs) a above = rw (ne_eqb job.arena a (λ e. let less : a < job.arena = above.0 in omega arith))
    (none_above jobs a above.1)

-- taking the first in takes it out of flight
pub rest_flown : (job : Job) (jobs : List Job) → Ascend (outs_of (job ∷ jobs)) → (a : ℕ)
    → flown_by jobs a ≡ cond {A = Option Bits} (eqb a job.arena) None (flown_by (job ∷ jobs) a)
rest_flown job jobs up a = by (eqb a job.arena) refl (eqb job.arena a) refl where
  by : (b : Bool) → eqb a job.arena ≡ b → (t : Bool) → eqb job.arena a ≡ t
      → flown_by jobs a ≡ cond {A = Option Bits} b None (cond {A = Option Bits} t (Some job.bits) (flown_by jobs a))
  by true h t k = ap (flown_by jobs) (eqb-true a job.arena h) ∙ none_above jobs job.arena up.0
  by false h true k = absurd (let q = eq-eqb a job.arena (sym (eqb-true job.arena a k)) in cc (q, h))
  by false h false k = refl

-- the first one's arena is in flight
pub first_flown : (job : Job) (jobs : List Job) → flown_by (job ∷ jobs) job.arena ≡ Some job.bits
first_flown job jobs = rw (eq-eqb job.arena job.arena refl) refl

-- what flies lies above what lies below all
above_flown : (jobs : List Job) (b a : ℕ) → AllAbove b (outs_of jobs) → IsSome (flown_by jobs a) → b < a
above_flown [] b a above some = absurd (cc some)
above_flown (job ∷ jobs) b a above some = by (eqb job.arena a) refl some (above_flown jobs b a above.1) where
  by : (t : Bool) → eqb job.arena a ≡ t → IsSome (cond t (Some job.bits) (flown_by jobs a))
      → (IsSome (flown_by jobs a) → b < a) → b < a
  by true e s rest = let same : job.arena ≡ a = eqb-true job.arena a e in let less : b < job.arena = above.0 in
      omega (arith, same, less)
  by false e s rest = rest s

-- the first one's arena is the lowest
pub lowest_flown : (job : Job) (jobs : List Job) (a : ℕ) → Ascend (outs_of (job ∷ jobs))
    → IsSome (flown_by (job ∷ jobs) a) → job.arena ≤ a
lowest_flown job jobs a up some = by (eqb job.arena a) refl some where
  by : (t : Bool) → eqb job.arena a ≡ t → IsSome (cond t (Some job.bits) (flown_by jobs a)) → job.arena ≤ a
  by true e s = let same : job.arena ≡ a = eqb-true job.arena a e in omega (arith, same)
  by false e s = let less : job.arena < a = above_flown jobs job.arena a up.0 s in omega (arith, less)

-- whether a job is of an arena
abbrev pub is_of : ℕ → Job → Bool
is_of arena job = eqb job.arena arena

-- where the job of an arena was found
pub flown_found : (jobs : List Job) (arena i : ℕ) (d : Job) → position (is_of arena) jobs ≡ Some i
    → flown_by jobs arena ≡ Some (get_or jobs i d).bits
flown_found jobs arena i d e = let p = position-Some (is_of arena) jobs i d e in flown_at jobs arena i d p.0 p.1 p.2

-- an arena in flight has a job
found_below : (jobs : List Job) (arena : ℕ) → IsSome (flown_by jobs arena)
    → position_or_len (is_of arena) jobs < length jobs
found_below [] arena some = absurd (cc some)
found_below (job ∷ jobs) arena some = by (eqb job.arena arena) refl some (found_below jobs arena)
  where
    by : (b : Bool) → eqb job.arena arena ≡ b → IsSome (cond b (Some job.bits) (flown_by jobs arena))
        → (IsSome (flown_by jobs arena) → position_or_len (is_of arena) jobs < length jobs)
        → cond (not b) (1 + position_or_len (is_of arena) jobs) 0 < suc (length jobs)
    by true e s rest = omega arith
    by false e s rest = let below = rest s in omega (arith, below)

pub found : (jobs : List Job) (arena : ℕ) → IsSome (flown_by jobs arena) → position (is_of arena) jobs ≡ None → ⊥
found jobs arena some none =
    let below : ltb (position_or_len (is_of arena) jobs) (length jobs) ≡ true =
    lt-ltb _ _ (found_below jobs arena some) in
    let there : position (is_of arena) jobs ≡ Some (position_or_len (is_of arena) jobs) =
    ap (λ (t : Bool). cond t (Some (position_or_len (is_of arena) jobs)) None) below in
    absurd (cc (none, there))

-- a job of the rest of a list
rest_job : (jobs items : List Job) (next i : ℕ) (d : Job) → jobs ≡ drop next items → d ≡ get_or items (next + i) d
    → get_or jobs i d ≡ d
rest_job jobs items next i d e at = ap (λ (xs : List Job). get_or xs i d) e ∙ get_or-drop next items i d ∙ sym at

-- the bits of an arena's job in the rest of a list
pub flown_in_rest : (jobs items : List Job) (next arena i : ℕ) (d : Job) → jobs ≡ drop next items
    → position (is_of arena) jobs ≡ Some i → d ≡ get_or items (next + i) d → flown_by jobs arena ≡ Some d.bits
flown_in_rest jobs items next arena i d e p at = flown_found jobs arena i d p
    ∙ ap (λ (job : Job). Some job.bits) (rest_job jobs items next i d e at)

-- a job of the rest of a list is woken
rest_woken : (jobs items : List Job) (next i mask : ℕ) (d : Job) → jobs ≡ drop next items
    → d ≡ get_or items (next + i) d → drop next (set items (next + i) (woken_job mask d))
    ≡ set jobs i (woken_job mask (get_or jobs i d))
rest_woken jobs items next i mask d e at =
    drop-set-add next items i (woken_job mask d)
    ∙ ap (λ (xs : List Job). set xs i (woken_job mask d)) (sym e)
    ∙ ap (λ (job : Job). set jobs i (woken_job mask job)) (sym (rest_job jobs items next i d e at))

pub wake_flown : (jobs items : List Job) (next arena i mask : ℕ) (d : Job) → jobs ≡ drop next items
    → position (is_of arena) jobs ≡ Some i → d ≡ get_or items (next + i) d
    → (a : ℕ) → flown_by (drop next (set items (next + i) (woken_job mask d))) a
    ≡ woken_bits (eqb a arena) mask (flown_by jobs a)
wake_flown jobs items next arena i mask d e p at a =
    let at_i = position-Some (is_of arena) jobs i d p in
    ap (λ (xs : List Job). flown_by xs a) (rest_woken jobs items next i mask d e at)
    ∙ flown_woken jobs arena i mask d at_i.0 at_i.1 at_i.2 a

-- gray slots woken: the white ones are the same
pub wake_outs : (jobs items : List Job) (next arena i mask : ℕ) (d : Job) → jobs ≡ drop next items
    → position (is_of arena) jobs ≡ Some i → d ≡ get_or items (next + i) d
    → IsSomeAnd (flown_by jobs arena) (λ (b : Bits). bit_or mask b.gob ≡ b.gob)
    → outs_of (drop next (set items (next + i) (woken_job mask d))) ≡ outs_of jobs
wake_outs jobs items next arena i mask d e p at gray =
    let at_i = position-Some (is_of arena) jobs i d p in
    let job = rest_job jobs items next i d e at in
    let within : bit_or mask d.bits.gob ≡ d.bits.gob =
    subst (λ (o : Option Bits). IsSomeAnd o (λ (b : Bits). bit_or mask b.gob ≡ b.gob))
    (flown_in_rest jobs items next arena i d e p at) gray in
    ap outs_of (rest_woken jobs items next i mask d e at) ∙ outs_woken jobs i d (woken_job mask (get_or jobs i d))
    at_i.0 refl (subst (λ (x : Job). white_of (woken_job mask x) ≡ white_of x) (sym job)
    (whites_woken mask d within))

-- a value with a property is a value
pub some_of_and : (o : Option Bits) (P : Bits → Type 0) → IsSomeAnd o P → IsSome o
some_of_and None P h = absurd h
some_of_and (Some b) P h = refl
