-- Whether a collection runs and whether a zone is marking, in a collector and in each world that it stands for.
use Rattle.std.proofs.Common.{◌≡◌, ◌↔◌, ◌<◌, ℕ, Bool, List, Option, Some, None, IsSome, IsSomeAnd, inl, inr, [], true}
use Rattle.std.proofs.Common.{false}
use Rattle.std.proofs.Common.{refl, sym, ap, subst, ◌∙◌, is_some, slice_get, arith}
use Rattle.std.proofs.lemmas.Bool.{cases_lt}
use Rattle.gz_names.specs.Zones.{HasZone}
use Rattle.gz_names.proofs.Words.{HasZone-first, HasZone-none}
use Rattle.cell_bits.specs.declared.bits.Bits.{Bits}
use Rattle.zones.specs.States.{IsMarking}
use Rattle.zones.specs.declared.states.State.{State}
use Rattle.zones.specs.declared.states.State.TheVariants as state
use Rattle.colour_defs.specs.Lawful.{IsRunning}
use Rattle.colour_defs.specs.World.{World, Collection, IsSettled, marking_of}
use Rattle.heap_core.specs.Heap.{HeapState}
use Rattle.heap_core.specs.Shape.{Shape, is_marking_state, state_in, is_prepare_state, is_prepared, state_or}
use Rattle.slice_driver.specs.Collector.{CollectorState, RunState, heap_with}
use Rattle.slice_driver.specs.Represents.{Represents, RepresentsMarking, Runs, RunsAs, going, prepared}
use Rattle.slice_driver.proofs.abstraction.Steps.{settled_states}
use Rattle.slice_driver.proofs.abstraction.Waits.{none_in_it}

runs_as : (h : HeapState) (c : CollectorState) (w : World) (r : Option RunState) (k : Option Collection) →
    RunsAs h c w r k → IsSome r ↔ ((j : Collection) × (k ≡ Some j))
runs_as h c w None None runs = (λ some. absurd (cc some), λ j. absurd (let none = j.1 in cc none))
runs_as h c w None (Some k) runs = absurd runs
runs_as h c w (Some r) None runs = absurd runs
runs_as h c w (Some r) (Some k) runs = (λ some. (k, refl), λ j. refl)

pub world_runs : (c : CollectorState) (flown : ℕ → Option Bits) (w : World) → Represents c flown w →
    IsSome c.run ↔ IsRunning w
world_runs c flown w (prepared p) =
    (λ some. inr (p.phase.preparation, p.phase.preparing_is), λ r. ap is_some p.run_is)
world_runs c flown w (going m) =
    let runs = runs_as (heap_with c flown) c w c.run w.collection m.phase.runs in (
      λ some. inl (runs.0 some),
      λ r. elim r [ inl j ↦ runs.1 j | inr p ↦ absurd (let calm = m.phase.calm in let is = p.1 in cc (calm, is)) ],
    )

settled_as : (h : HeapState) (c : CollectorState) (w : World) (r : Option RunState) (k : Option Collection) →
    RunsAs h c w r k → ((z : ℕ) → is_marking_state (state_in c.heap.shape z) ≡ false) → marking_of k ≡ []
settled_as h c w None None runs rests = refl
settled_as h c w None (Some k) runs rests = absurd runs
settled_as h c w (Some r) None runs rests = absurd runs
settled_as h c w (Some r) (Some k) runs rests = none_in_it k.marking
    (λ z has. let marks = (runs.marking_are z).0 has in let none = rests z in cc (marks, none))

-- where no zone is marking in the collector, nor any is being prepared, the world is settled
pub world_settled : (c : CollectorState) (flown : ℕ → Option Bits) (w : World) → Represents c flown w →
    ((z : ℕ) → is_marking_state (state_in c.heap.shape z) ≡ false)
    → ((z : ℕ) → is_prepared c.heap.shape z ≡ false) → IsSettled w
world_settled c flown w (going m) rests none = record {
  none_marking = settled_as (heap_with c flown) c w c.run w.collection m.phase.runs rests;
  none_preparing = m.phase.calm;
}
world_settled c flown w (prepared p) rests none = absurd
    (let is = ap is_prepare_state (p.phase.inside p.phase.some.0 p.phase.some.1) in
    let off = none p.phase.some.0 in
    cc (is, off))

-- while no preparation runs no zone is being prepared
running_prepares : (h : HeapState) (c : CollectorState) (w : World) (r : RunState) (k : Collection) → Runs h c w r k
    → (z : ℕ) → state_in c.heap.shape z ≡ state.Prepare → ⊥
running_prepares h c w r k i z is = (let no = i.states.outside z not_here in cc (is, no))
  where
    not_formed : HasZone r.zones.bits z → r.formed ≡ true → ⊥
    not_formed here e = elim (i.states.ended e z here (λ at. elim (i.states.later e z at) [
      | inl only ↦ cc (is, only)
      | inr both ↦ (let gray = both.1 in cc (is, gray))
    ])) [ inl sweep ↦ cc (is, sweep) | inr finished ↦ cc (is, finished) ]

    not_unformed : HasZone r.zones.bits z → r.formed ≡ false → ⊥
    not_unformed here e = (let only = i.states.early e z here in cc (is, only))

    not_here : HasZone r.zones.bits z → ⊥
    not_here here = by r.formed refl
      where
        by : (b : Bool) → r.formed ≡ b → ⊥
        by true e = not_formed here e
        by false e = not_unformed here e

none_prepared_as : (h : HeapState) (c : CollectorState) (w : World) (r : Option RunState) (k : Option Collection) →
    RunsAs h c w r k → (z : ℕ) → is_prepared c.heap.shape z ≡ false
none_prepared_as h c w None None i z = ap is_prepare_state (i.states z)
none_prepared_as h c w None (Some k) i z = absurd i
none_prepared_as h c w (Some r) None i z = absurd i
none_prepared_as h c w (Some r) (Some k) i z = not_prepare (state_in c.heap.shape z) refl
  where
    not_prepare : (t : State) → state_in c.heap.shape z ≡ t → is_prepare_state t ≡ false
    not_prepare state.NoGC e = refl
    not_prepare state.Prepare e = absurd (running_prepares h c w r k i z e)
    not_prepare state.MarkBlackOnly e = refl
    not_prepare state.MarkBlackAndGray e = refl
    not_prepare state.Sweep e = refl
    not_prepare state.Finished e = refl

pub none_prepared : (c : CollectorState) (flown : ℕ → Option Bits) (w : World) → RepresentsMarking c flown w → (z : ℕ)
    → is_prepared c.heap.shape z ≡ false
none_prepared c flown w m = none_prepared_as (heap_with c flown) c w c.run w.collection m.phase.runs

-- where the world is settled, no zone is marking in the collector, and none is being prepared
pub states_settled : (c : CollectorState) (flown : ℕ → Option Bits) (w : World) → Represents c flown w → IsSettled w
    → (z : ℕ) → (is_marking_state (state_in c.heap.shape z) ≡ false) × (is_prepared c.heap.shape z ≡ false)
states_settled c flown w (going m) settled z = (
  settled_states (heap_with c flown) c w c.run w.collection m.phase.runs settled.none_marking z,
  none_prepared c flown w m z,
)
states_settled c flown w (prepared p) settled z =
    absurd (let none = settled.none_preparing in let is = p.phase.preparing_is in cc (none, is))

-- a set of zones that has exactly those whose states meet a test
module _ (states : List State) (word : ℕ) (test : State → Bool)
    (are : (z : ℕ) → HasZone word z ↔ ((t : State) × (slice_get states z ≡ Some t) × (test t ≡ true)))
    (none : test state.NoGC ≡ false) (fits : word < 18446744073709551616) where
  none_in_it_then : word ≡ 0 → (z : ℕ) → test (state_or (slice_get states z)) ≡ false
  none_in_it_then zero z = go (slice_get states z) refl
    where
      off : (t : State) (b : Bool) → slice_get states z ≡ Some t → test t ≡ b → b ≡ false
      off t false at e = refl
      off t true at e = absurd (HasZone-none z (subst (λ n. HasZone n z) zero ((are z).1 (t, at, e))))

      go : (o : Option State) → slice_get states z ≡ o → test (state_or o) ≡ false
      go None at = none
      go (Some t) at = off t (test t) at refl

  empty_then : ((z : ℕ) → test (state_or (slice_get states z)) ≡ false) → word ≡ 0
  empty_then all = elim (cases_lt 0 word) [
    | inr few ↦ omega (arith, few)
    | inl some ↦ absurd (let first = HasZone-first word some fits in in_none _ ((are _).0 first.1))
  ]
    where
      in_none : (z : ℕ) → (t : State) × (slice_get states z ≡ Some t) × (test t ≡ true) → ⊥
      in_none z i = (let off = all z in let at = ap (λ o. test (state_or o)) i.1 in let on = i.2 in cc (off, at, on))

marking_test : (t : State) → is_marking_state t ≡ true → IsMarking t
marking_test state.NoGC e = absurd (cc e)
marking_test state.Prepare e = absurd (cc e)
marking_test state.MarkBlackOnly e = inl refl
marking_test state.MarkBlackAndGray e = inr refl
marking_test state.Sweep e = absurd (cc e)
marking_test state.Finished e = absurd (cc e)

prepare_test : (t : State) → is_prepare_state t ≡ true → t ≡ state.Prepare
prepare_test state.NoGC e = absurd (cc e)
prepare_test state.Prepare e = refl
prepare_test state.MarkBlackOnly e = absurd (cc e)
prepare_test state.MarkBlackAndGray e = absurd (cc e)
prepare_test state.Sweep e = absurd (cc e)
prepare_test state.Finished e = absurd (cc e)

marking_at : (o : Option State) → IsSomeAnd o IsMarking → (t : State) × (o ≡ Some t) × (is_marking_state t ≡ true)
marking_at None i = absurd i
marking_at (Some t) (inl only) = (t, refl, ap is_marking_state only)
marking_at (Some t) (inr both) = (t, refl, ap is_marking_state both)

-- the set of the zones that are marking is empty where none is
pub none_marking : (s : Shape) (word : ℕ) → word < 18446744073709551616
    → ((z : ℕ) → HasZone word z ↔ IsSomeAnd (slice_get s.states z) IsMarking)
    → (word ≡ 0) ↔ ((z : ℕ) → is_marking_state (state_in s z) ≡ false)
none_marking s word fits those =
    let are : (z : ℕ) → HasZone word z
    ↔ ((t : State) × (slice_get s.states z ≡ Some t) × (is_marking_state t ≡ true)) = λ z. (
      λ has. marking_at (slice_get s.states z) ((those z).0 has),
      λ i. (those z).1 (subst (λ (o : Option State). IsSomeAnd o IsMarking) (sym i.1) (marking_test i.0 i.2)),
    ) in (
      none_in_it_then s.states word is_marking_state are refl fits,
      empty_then s.states word is_marking_state are refl fits,
    )

-- and that of the zones that are being prepared
pub none_preparing : (s : Shape) (word : ℕ) → word < 18446744073709551616
    → ((z : ℕ) → HasZone word z ↔ (slice_get s.states z ≡ Some state.Prepare))
    → (word ≡ 0) ↔ ((z : ℕ) → is_prepared s z ≡ false)
none_preparing s word fits those =
    let are : (z : ℕ) → HasZone word z
    ↔ ((t : State) × (slice_get s.states z ≡ Some t) × (is_prepare_state t ≡ true)) = λ z. (
      λ has. (state.Prepare, (those z).0 has, refl),
      λ i. (those z).1 (i.1 ∙ ap (λ (t : State). Some t) (prepare_test i.0 i.2)),
    ) in (
      none_in_it_then s.states word is_prepare_state are refl fits,
      empty_then s.states word is_prepare_state are refl fits,
    )
