-- The unit that takes an arena in.
use Rattle.std.proofs.Common.{◌≡◌, ℕ, zero, suc, Bool, true, false, if◌then◌else◌, Option, None, Some, IsSome, List, []}
use Rattle.std.proofs.Common.{◌∷◌, length, map, slice_get, refl, sym, ap, subst, ◌∙◌, inl, inr}
use Rattle.std.proofs.lemmas.List.{length-map}
use Rattle.gz_names.specs.declared.names.Name.{Name}
use Rattle.gz_names.specs.declared.replies.Report.TheVariants as report
use Rattle.gz_names.specs.declared.zone_sets.ZoneSet.{ZoneSet}
use Rattle.cell_bits.specs.declared.bits.Bits.{Bits}
use Rattle.zones.specs.declared.states.State.{State}
use Rattle.zones.specs.declared.states.State.TheVariants as state
use Rattle.colour_defs.proofs.Lists.{nothing_in_none}
use Rattle.heap_core.specs.Shape.{out_of, state_in, state_or}
use Rattle.heap_core.specs.Heap.{HeapState}
use Rattle.heap_core.specs.Sweeping.{with_taken}
use Rattle.slice_driver.specs.Advancing.{EndsSweeping, after_end}
use Rattle.slice_driver.specs.Collector.{CollectorState, RunState, heap_with}
use Rattle.slice_driver.specs.Represents.{AreInStates, IsInGroups}
use Rattle.slice_driver.specs.Sweeping.{AreFreed, FitsWords, TakesIn, after_sweep}
use Rattle.slice_driver.specs.Units.{DoesUnit, IsFreedWord, IsLowestOut, reports_of, without_arena}
use Rattle.slice_driver.proofs.abstraction.Phases.{marking_of, none_out}
use Rattle.slice_driver.proofs.group_end.Ready.{collection_of, runs_of}
use Rattle.slice_driver.proofs.taking_in.GroupingLaws.{unformed_kept}
use Rattle.slice_driver.proofs.taking_in.Laws.{sweep_last_unit, sweep_unit}
use Rattle.slice_driver.proofs.taking_in.Runs.{has_zone_or_not}

-- the states of all zones, changed
pub states_mapped : (f : State → State) → f state.NoGC ≡ state.NoGC → (states : List State) (z : ℕ)
    → state_or (slice_get (map f states) z) ≡ f (state_or (slice_get states z))
states_mapped f e [] z = sym e
states_mapped f e (s ∷ states) zero = refl
states_mapped f e (s ∷ states) (suc z) = states_mapped f e states z

-- with each zone that was swept finished
abbrev pub all_swept : HeapState → HeapState
all_swept h = record h { shape = record h.shape { states = map after_sweep h.shape.states } }

pub run_there : (o : Option RunState) → IsSome o → (r : RunState) × (o ≡ Some r)
run_there None e = absurd (cc e)
run_there (Some r) e = (r, refl)

nothing_out : (o : Option Bits) → IsSome o → o ≡ None → ⊥
nothing_out None s e = cc s
nothing_out (Some b) s e = cc e

-- where no group is left, the zones of a collection are swept or finished, and all others are in none
pub ends_all : (c : CollectorState) (r : RunState) → AreInStates c r → r.formed ≡ true → c.groups ≡ [] → (z : ℕ)
    → after_end (state_in c.heap.shape z) ≡ state.NoGC
ends_all c r s formed none z = elim (has_zone_or_not r.zones.bits z) [
  | inr out ↦ ap after_end (s.outside z out)
  | inl has ↦ elim (s.ended formed z has (λ i. empty c.groups none i)) [
    | inl e ↦ ap after_end e
    | inr e
        ↦ ap after_end e
  ]
]
  where
    empty : (groups : List ZoneSet) → groups ≡ [] → IsInGroups groups z → ⊥
    empty [] e i = nothing_in_none i.0 i.1
    empty (g ∷ gs) e i = cc e

pub formed_of : (b : Bool) → (b ≡ false → ⊥) → b ≡ true
formed_of true n = refl
formed_of false n = absurd (n refl)

pub after_both : (t : State) → after_end (after_sweep t) ≡ after_end t
after_both state.NoGC = refl
after_both state.Prepare = refl
after_both state.MarkBlackOnly = refl
after_both state.MarkBlackAndGray = refl
after_both state.Sweep = refl
after_both state.Finished = refl

-- the lowest arena that is out is to be taken in: these are the slots of its white cells at hand-out and their names,
-- and its bits in flight
pub record AtTaking (c : CollectorState) (flown : ℕ → Option Bits) (a freed : ℕ) (bits : Bits) (names : List Name)
    : Type 0 where
  pub bits_are : flown a ≡ Some bits
  pub lowest : IsLowestOut c.heap.shape a
  pub freed_is : IsFreedWord c.heap.shape a freed
  pub running : IsSome c.run
  pub fits : (old : Bits) → out_of c.heap.shape a ≡ Some old → FitsWords old
  pub listed : AreFreed c.heap.shape a freed names

module _ (c : CollectorState) (flown : ℕ → Option Bits) (a freed : ℕ) (bits : Bits) (names : List Name)
    (taking : AtTaking c flown a freed bits names) (k : HeapState) where
  abbrev taken : HeapState
  taken = with_taken c.heap a freed bits

  abbrev middle : HeapState → CollectorState
  middle h = record c { heap = h }

  module _ (h : HeapState) (rest : h ≡ record taken { shape = record taken.shape { states = h.shape.states } })
      (sized : length h.shape.states ≡ length c.heap.shape.states) (still : (b : ℕ) → IsSome (out_of taken.shape b)
      → (z : ℕ) → state_in h.shape z ≡ state_in c.heap.shape z) (swept : ((b : ℕ) → out_of taken.shape b ≡ None)
      → (z : ℕ) → state_in h.shape z ≡ after_sweep (state_in c.heap.shape z)) where
    out_same : (b : ℕ) → out_of h.shape b ≡ out_of taken.shape b
    out_same b = ap (λ (x : HeapState). out_of x.shape b) rest

    takes : TakesIn c flown a freed bits (middle h)
    takes = record {
      running = taking.running;
      lowest = taking.lowest;
      freed_is = taking.freed_is;
      fits = taking.fits;
      bits_are = taking.bits_are;
      heap_is = rest;
      sized = sized;
      still = λ b out z. still b (subst (λ (o : Option Bits). IsSome o) (out_same b) out) z;
      all_in = λ none z. swept (λ b. sym (out_same b) ∙ none b) z;
      stack_is = refl;
      lists_is = refl;
      groups_is = refl;
      run_is = refl;
    }

  -- more is left to do
  pub sweeps_on : EndsSweeping taken c.groups false k
      → DoesUnit c flown (report.Swept a names ∷ []) (middle k) (without_arena flown a)
  sweeps_on e = sweep_unit c (middle k) flown a freed bits names
      (takes k e.rest e.sized (λ b out. (e.still b out).1) (λ none. (e.swept none refl).1)) taking.listed
      (λ done. (e.swept (λ b.
      sym (out_same k e.rest e.sized (λ b out. (e.still b out).1) (λ none. (e.swept none refl).1) b) ∙ done.kept b)
      refl).0 done.none_left)

  -- nothing is
  pub sweeps_last : EndsSweeping taken c.groups true k
      → DoesUnit c flown (report.Swept a names ∷ report.Done ∷ []) (record c { heap = k; run = None })
      (without_arena flown a)
  sweeps_last e w ok r =
      let s = marking_of c flown w (none_out c flown w a taking.lowest.out) r in
      let over = e.ended refl in
      let run = run_there c.run taking.running in
      let is_formed : run.0.formed ≡ true =
      formed_of run.0.formed
      (λ no. nothing_out (out_of c.heap.shape a) taking.lowest.out (unformed_kept c flown w run.0 s run.1 no a)) in
      let kind = collection_of c (heap_with c flown) w run.0 run.1 s.phase.runs in
      let states = (runs_of c (heap_with c flown) w run.0 kind.0 run.1 kind.1 s.phase.runs).states in
      let none_now : (b : ℕ) → out_of (all_swept taken).shape b ≡ None = over.1 in
      sweep_last_unit c (middle (all_swept taken)) (record c { heap = k; run = None }) flown a freed bits names
      (takes (all_swept taken) refl (length-map c.heap.shape.states after_sweep)
      (λ b out. absurd (nothing_out (out_of taken.shape b) out (over.1 b)))
      (λ none z. states_mapped after_sweep refl c.heap.shape.states z))
      taking.listed
      (record { run = run.0; running = run.1; formed = is_formed; none_left = over.0; kept = none_now })
      (record {
        heap_is = e.rest;
        sized = e.sized ∙ sym (length-map c.heap.shape.states after_sweep);
        states = λ z. over.2 z ∙ ends_all c run.0 states is_formed over.0 z;
        stack_is = refl;
        lists_is = refl;
        run_is = refl;
      })
      w ok r

  pub takes_unit : (over : Bool) → EndsSweeping taken c.groups over k
      → DoesUnit c flown (reports_of (Some (report.Swept a names)) over)
      (record c { heap = k; run = if over then None else c.run }) (without_arena flown a)
  takes_unit true e = sweeps_last e
  takes_unit false e = sweeps_on e
