-- The unit that ends a group.
use Rattle.std.proofs.Common.{◌≡◌, ◌≢◌, ℕ, Bool, true, false, if◌then◌else◌, Option, None, Some, IsSome, is_some, List}
use Rattle.std.proofs.Common.{[], ◌∷◌, length, refl, sym, ap, subst, ◌∙◌, inl, inr}
use Rattle.std.proofs.lemmas.List.{length-map}
use Rattle.gz_names.specs.Zones.{HasZone}
use Rattle.gz_names.specs.declared.replies.Report.TheVariants as report
use Rattle.cell_bits.specs.declared.bits.Bits.{Bits}
use Rattle.cell_bits.specs.declared.jobs.Job.{Job}
use Rattle.zones.specs.States.{next_state}
use Rattle.zones.specs.declared.states.State.{State}
use Rattle.zones.specs.declared.states.State.TheVariants as state
use Rattle.colour_defs.specs.World.{World}
use Rattle.heap_core.specs.Shape.{out_of, state_in}
use Rattle.heap_core.specs.Heap.{HeapState}
use Rattle.heap_core.specs.Sweeping.{handed, jobs_of, with_handed}
use Rattle.slice_driver.specs.Advancing.{EndsSweeping}
use Rattle.slice_driver.specs.Collector.{CollectorState, heap_with}
use Rattle.slice_driver.specs.GroupEnd.{AreJustFlown, EndsIn, EndsZones, IsEnded}
use Rattle.slice_driver.specs.Represents.{AreInStates, Represents, RepresentsMarking}
use Rattle.slice_driver.specs.Sweeping.{after_sweep}
use Rattle.slice_driver.specs.Units.{AreJobs, DoesUnit, flown_by, flying_after, reports_of}
use Rattle.slice_driver.proofs.abstraction.Phases.{marking_of, none_formed}
use Rattle.slice_driver.proofs.group_end.Cells.{some_out}
use Rattle.slice_driver.proofs.group_end.Laws.{group_ends, jobs_flown}
use Rattle.slice_driver.proofs.group_end.Ready.{collection_of, no_some, runs_of}
use Rattle.slice_driver.proofs.group_end.Steps.{ended_by_steps}
use Rattle.slice_driver.proofs.taking_in.Laws.{end_last_unit, end_unit}
use Rattle.slice_driver.proofs.taking_in.TakingIn.{after_both, all_swept, ends_all, states_mapped}
use Rattle.slice_driver.proofs.group_end.Ending.{EndListed, EndsOn, HandsGroup}

not_swept : (t : State) → t ≢ state.Sweep → after_sweep t ≡ t
not_swept state.NoGC n = refl
not_swept state.Prepare n = refl
not_swept state.MarkBlackOnly n = refl
not_swept state.MarkBlackAndGray n = refl
not_swept state.Sweep n = absurd (n refl)
not_swept state.Finished n = refl

nothing_out : (o : Option Bits) → IsSome o → o ≡ None → ⊥
nothing_out None s e = cc s
nothing_out (Some b) s e = cc e

module _ (c : CollectorState) (m : HeapState) (on : HandsGroup c m) where
  open on use {group as g, rest, ready, jobs, out}

  state_dropped : (z : ℕ) → state_in out.dropped.shape z ≡ state_in c.heap.shape z
  state_dropped z = ap (λ (x : HeapState). state_in x.shape z) out.drops.rest

  pub group_swept : (z : ℕ) → HasZone g.bits z → state_in m.shape z ≡ state.Sweep
  group_swept z has = out.goes.gone_on z has ∙ ap next_state (state_dropped z ∙ ready.marked.begun z has)

  pub others_stay : (z : ℕ) → (HasZone g.bits z → ⊥) → state_in m.shape z ≡ state_in c.heap.shape z
  others_stay z other = out.goes.others z other ∙ state_dropped z

  -- a heap with the states of m, or with those that are swept finished
  pub record HasStates (n : HeapState) : Type 0 where
    pub rest_is : n ≡ record m { shape = record m.shape { states = n.shape.states } }
    pub sized : length n.shape.states ≡ length m.shape.states
    pub still : (b : ℕ) → IsSome (out_of m.shape b) → (z : ℕ) → state_in n.shape z ≡ state_in m.shape z
    pub swept : ((b : ℕ) → out_of m.shape b ≡ None) → (z : ℕ) → state_in n.shape z ≡ after_sweep (state_in m.shape z)

  module _ (n : HeapState) (has : HasStates n) (no_sweep : (z : ℕ) → state_in c.heap.shape z ≢ state.Sweep) where
    out_same : (b : ℕ) → out_of n.shape b ≡ out_of m.shape b
    out_same b = ap (λ (x : HeapState). out_of x.shape b) has.rest_is

    zones_end : EndsZones c.heap g n
    zones_end = record {
      sized = has.sized ∙ (out.goes.sized ∙ ap (λ (x : HeapState). length x.shape.states) out.drops.rest);
      others = λ z other. elim (some_out m.shape) [
        | inl some ↦ has.still some.0 some.1 z ∙ others_stay z other
        | inr none ↦ has.swept none z
            ∙ (ap after_sweep (others_stay z other) ∙ not_swept (state_in c.heap.shape z) (no_sweep z))
      ];
      swept = λ a some z here. has.still a (subst (λ (o : Option Bits). IsSome o) (out_same a) some) z
          ∙ group_swept z here;
      finished = λ none z here. has.swept (λ b. sym (out_same b) ∙ none b) z ∙ ap after_sweep (group_swept z here);
    }

    pub heap_ended : IsEnded c.heap g n
    heap_ended = ended_by_steps c.heap (with_handed c.heap g.bits) out.dropped n g refl out.drops
        (has.rest_is ∙ ap (λ (x : HeapState). record x { shape = record x.shape { states = n.shape.states } })
        out.goes.rest) zones_end

    abbrev after : CollectorState
    after = record c { heap = n; groups = rest }

    ends_in : EndsIn c g rest after
    ends_in = record { heap = heap_ended; stack_is = refl; lists_is = refl; groups_is = refl; run_is = refl }

    arenas_handed : n.shape.arenas ≡ handed g.bits c.heap.shape.arenas c.heap.colours
    arenas_handed = ap (λ (x : HeapState). x.shape.arenas) heap_ended.rest

    just_flown : (flown : ℕ → Option Bits) → ((a : ℕ) → flown a ≡ None)
        → length c.heap.colours ≡ length c.heap.shape.arenas → AreJustFlown n.shape (flying_after jobs flown)
    just_flown flown none sized = go jobs out.jobs_are
      where
        by_jobs : AreJustFlown n.shape (flown_by (jobs_of g.bits 0 c.heap.shape.arenas c.heap.colours))
        by_jobs = jobs_flown c.heap n g.bits sized ready.kept arenas_handed

        go : (o : Option (List Job)) → AreJobs o (jobs_of g.bits 0 c.heap.shape.arenas c.heap.colours)
            → AreJustFlown n.shape (flying_after o flown)
        go None e a = none a ∙ (sym (ap (λ (js : List Job). flown_by js a) e) ∙ by_jobs a)
        go (Some js) e a = ap (λ (js : List Job). flown_by js a) e.0 ∙ by_jobs a

module _ (c : CollectorState) (m : HeapState) (on : HandsGroup c m) (lists : EndListed c.heap on.group) (k : HeapState)
    (flown : ℕ → Option Bits) where
  open on use {group as g, rest, ready, jobs}

  abbrev ended_on : (d : CollectorState) → EndsIn c g rest d → AreJustFlown d.heap.shape (flying_after jobs flown)
      → EndsOn c d (flying_after jobs flown)
  ended_on d ends flies = record {
    group = g;
    rest = rest;
    ready = ready;
    lists = lists;
    ends = ends;
    flies = flies;
  }

  marking : (w : World) → Represents c flown w → RepresentsMarking c flown w
  marking w r = marking_of c flown w (none_formed c flown w (ready.run, ready.running, ready.formed)) r

  none_flown : (w : World) → RepresentsMarking c flown w → (a : ℕ) → flown a ≡ None
  none_flown w s a = no_some (flown a) (s.swept.flies.covers a ∙ ap is_some (ready.kept a))

  sized_in : (w : World) → RepresentsMarking c flown w → length c.heap.colours ≡ length c.heap.shape.arenas
  sized_in w s = sym (Rattle.barriers.proofs.Flying.flown_length flown 0 c.heap.colours)
      ∙ s.coloured.marks.holds.colours.sized

  states_in : (w : World) → RepresentsMarking c flown w → AreInStates c ready.run
  states_in w s = let kind = collection_of c (heap_with c flown) w ready.run ready.running s.phase.runs in
      (runs_of c (heap_with c flown) w ready.run kind.0 ready.running kind.1 s.phase.runs).states

  ends_on : EndsSweeping m rest false k
      → DoesUnit c flown (report.Ended g lists.grays lists.told ∷ []) (record c { heap = k; groups = rest })
      (flying_after jobs flown)
  ends_on e w ok r =
      let s = marking w r in
      let has : HasStates c m on k = record {
        rest_is = e.rest;
        sized = e.sized;
        still = λ b some. (e.still b some).1;
        swept = λ none. (e.swept none refl).1;
      } in
      let no_sweep = (states_in w s).swept ready.kept in
      end_unit c (record c { heap = k; groups = rest }) flown (flying_after jobs flown)
      (ended_on (record c { heap = k; groups = rest }) (ends_in c m on k has no_sweep)
      (just_flown c m on k has no_sweep flown (none_flown w s) (sized_in w s)))
      (λ done. (e.swept (λ b. sym (out_same c m on k has no_sweep b) ∙ done.kept b) refl).0 done.none_left)
      w ok r

  ends_last : EndsSweeping m rest true k
      → DoesUnit c flown (report.Ended g lists.grays lists.told ∷ report.Done ∷ [])
      (record c { heap = k; groups = rest; run = None }) (flying_after jobs flown)
  ends_last e w ok r =
      let s = marking w r in
      let over = e.ended refl in
      let n : HeapState = all_swept m in
      let has : HasStates c m on n = record {
        rest_is = refl;
        sized = length-map m.shape.states after_sweep;
        still = λ b some. absurd (nothing_out (out_of m.shape b) some (over.1 b));
        swept = λ none z. states_mapped after_sweep refl m.shape.states z;
      } in
      let no_sweep = (states_in w s).swept ready.kept in
      let d : CollectorState = record c { heap = n; groups = rest } in
      let here : EndsOn c d (flying_after jobs flown) = ended_on d (ends_in c m on n has no_sweep)
      (just_flown c m on n has no_sweep flown (none_flown w s) (sized_in w s)) in
      let v = group_ends c d flown (flying_after jobs flown) w here ok s in
      let kind = collection_of d (heap_with d (flying_after jobs flown)) v.0 ready.run ready.running v.3.phase.runs
      in
      let states : AreInStates d ready.run =
      (runs_of d (heap_with d (flying_after jobs flown)) v.0 ready.run kind.0 ready.running kind.1
      v.3.phase.runs).states in
      let none_now : (b : ℕ) → out_of d.heap.shape b ≡ None = over.1 in
      end_last_unit c d (record c { heap = k; groups = rest; run = None }) flown (flying_after jobs flown) here
      (record {
        run = ready.run;
        running = ready.running;
        formed = ready.formed;
        none_left = over.0;
        kept = none_now;
      })
      (record {
        heap_is = e.rest;
        sized = e.sized ∙ sym (length-map m.shape.states after_sweep);
        states = λ z. over.2 z
            ∙ (sym (after_both (state_in m.shape z))
            ∙ (ap Rattle.slice_driver.specs.Advancing.after_end
            (sym (states_mapped after_sweep refl m.shape.states z))
            ∙ ends_all d ready.run states ready.formed over.0
            z));
        stack_is = refl;
        lists_is = refl;
        run_is = refl;
      })
      w ok r

  pub ends_group : (over : Bool) → EndsSweeping m rest over k
      → DoesUnit c flown (reports_of (Some (report.Ended g lists.grays lists.told)) over)
      (record c { heap = k; groups = rest; run = if over then None else c.run }) (flying_after jobs flown)
  ends_group true e = ends_last e
  ends_group false e = ends_on e
