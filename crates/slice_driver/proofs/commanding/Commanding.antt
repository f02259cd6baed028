-- What a barrier asks, and what it keeps.
use Rattle.std.proofs.Common.{◌⊎◌, ◌≡◌, ℕ, Option, Some, None, inl, inr, sym, ap, subst, ◌∙◌}
use Rattle.gz_names.specs.declared.numbers.Place.{Place}
use Rattle.cell_bits.specs.declared.bits.Bits.{Bits}
use Rattle.mark_stack.specs.Stack.{Piles}
use Rattle.colour_defs.specs.World.{World}
use Rattle.heap_core.specs.Shape.{Shape, is_prepare_state, is_prepared}
use Rattle.heap_core.specs.Heap.{HeapState, joined}
use Rattle.barriers.specs.Invariant.{MarkingInvariant}
use Rattle.barriers.specs.Exposing.{Exposes}
use Rattle.barriers.specs.LeftOut.{ExposesLeftOut, PreparingInvariant}
use Rattle.barriers.specs.Spreading.{Covers}
use Rattle.barriers.proofs.Flying.{flown_length}
use Rattle.slice_driver.specs.Collector.{CollectorState}
use Rattle.slice_driver.specs.Commands.{Exposed, ExposedLeftOut}
use Rattle.slice_driver.specs.Represents.{Represents, RepresentsMarking, RepresentsPreparing, going, prepared}
use Rattle.slice_driver.specs.Rooms.{Widens}
use Rattle.slice_driver.specs.Steps.{GoesThrough, IsMarkable, IsPrepared}
use Rattle.slice_driver.specs.Units.{IsSound}
use Rattle.slice_driver.proofs.abstraction.WorldRuns.{none_prepared}

-- a barrier finds what it asks, whatever the phase
pub markable : (c : CollectorState) (flown : ℕ → Option Bits) (w : World) → RepresentsMarking c flown w
    → IsMarkable c flown
markable c flown w rep = record {
  invariant = rep.coloured.marks;
  none_prepared = none_prepared c flown w rep;
}

pub is_prepared_in : (c : CollectorState) (flown : ℕ → Option Bits) (w : World) → RepresentsPreparing c flown w
    → IsPrepared c
is_prepared_in c flown w rep = record {
  invariant = rep.cleared.invariant;
  prepared = (rep.phase.some.0, ap is_prepare_state (rep.phase.inside rep.phase.some.0 rep.phase.some.1));
}

abbrev pub MayGoThrough : CollectorState → (ℕ → Option Bits) → Type 0
MayGoThrough c flown = IsMarkable c flown ⊎ IsPrepared c

phase_of : (c : CollectorState) (flown : ℕ → Option Bits) (w : World) → Represents c flown w → MayGoThrough c flown
phase_of c flown w (going rep) = inl (markable c flown w rep)
phase_of c flown w (prepared rep) = inr (is_prepared_in c flown w rep)

pub sound_phase : (c : CollectorState) (flown : ℕ → Option Bits) → IsSound c flown → MayGoThrough c flown
sound_phase c flown s = phase_of c flown s.world s.represents

-- also with more room
pub wide_phase : (c d : CollectorState) (flown : ℕ → Option Bits) → Widens c d → MayGoThrough c flown
    → MayGoThrough d flown
wide_phase c d flown wide (inl m) = inl (subst (λ e. IsMarkable e flown) (sym wide.rest)
    (record { invariant = m.invariant; none_prepared = m.none_prepared }))
wide_phase c d flown wide (inr p) = inr (subst IsPrepared (sym wide.rest)
    (record { invariant = p.invariant; prepared = p.prepared }))

-- after a barrier the invariants hold
pub exposed_marks : (o : Option Place) (h : HeapState) (s : Piles) (k : HeapState) (t : Piles) → Exposed o h s k t
    → MarkingInvariant h s → MarkingInvariant k t
exposed_marks None h s k t e inv =
    subst (λ z. MarkingInvariant z t) (sym e.0) (subst (λ z. MarkingInvariant h z) (sym e.1) inv)
exposed_marks (Some x) h s k t e inv = e.invariant

exposed_prepares : (o : Option Place) (h : HeapState) (s : Piles) (k : HeapState) (t : Piles)
    → ExposedLeftOut o h s k t → PreparingInvariant h s → PreparingInvariant k t
exposed_prepares None h s k t e inv =
    subst (λ z. PreparingInvariant z t) (sym e.0) (subst (λ z. PreparingInvariant h z) (sym e.1) inv)
exposed_prepares (Some x) h s k t e inv = e.invariant

pub through_shape : (o : Option Place) (c : CollectorState) (flown : ℕ → Option Bits) (d : CollectorState)
    (flying : ℕ → Option Bits) → GoesThrough o c flown d flying → d.heap.shape ≡ c.heap.shape
through_shape o c flown d flying t = ap (λ (h : HeapState). h.shape) t.heap_is

pub through_prepared : (o : Option Place) (c : CollectorState) (flown : ℕ → Option Bits) (d : CollectorState)
    (flying : ℕ → Option Bits) → GoesThrough o c flown d flying → IsPrepared c → IsPrepared d
through_prepared o c flown d flying t p = record {
  invariant = exposed_prepares o c.heap c.stack d.heap d.stack (t.preparing p).0 p.invariant;
  prepared = (
    p.prepared.0,
    ap (λ (s : Shape). is_prepared s p.prepared.0) (through_shape o c flown d flying t) ∙ p.prepared.1,
  );
}

pub through_phase : (o : Option Place) (c : CollectorState) (flown : ℕ → Option Bits) (d : CollectorState)
    (flying : ℕ → Option Bits) → GoesThrough o c flown d flying → MayGoThrough c flown → MayGoThrough d flying
through_phase o c flown d flying t (inr p) = inr (through_prepared o c flown d flying t p)
through_phase o c flown d flying t (inl m) = inl (record {
  invariant = exposed_marks o (joined c.heap flown) c.stack (joined d.heap flying) d.stack (t.marking m) m.invariant;
  none_prepared = λ z. ap (λ (s : Shape). is_prepared s z) (through_shape o c flown d flying t) ∙ m.none_prepared z;
})

-- a cell goes through a barrier, which leaves the other phase's invariant for none to ask
module _ (x : Place) (c : CollectorState) (flown : ℕ → Option Bits) (d : CollectorState) (flying : ℕ → Option Bits)
    (rest : d ≡ record c { heap = d.heap; stack = d.stack }) (delayed : d.heap.delayed ≡ c.heap.delayed)
    (covers : Covers c.heap.shape flown)
    (marks : IsMarkable c flown
    → Exposes (joined c.heap flown) c.stack x (joined d.heap flying) d.stack × Covers d.heap.shape flying)
    (prepares : IsPrepared c → ExposesLeftOut c.heap c.stack x d.heap d.stack × (flying ≡ flown)) where
  no_other : IsMarkable c flown → IsPrepared c → ⊥
  no_other m p = let none = m.none_prepared p.prepared.0 in let some = p.prepared.1 in cc (none, some)

  pub goes_through : MayGoThrough c flown → GoesThrough (Some x) c flown d flying
  goes_through (inl m) = (let done = marks m in record {
    marking = λ n. done.0;
    preparing = λ p. absurd (no_other m p);
    rest = rest;
    heap_is = ap (λ (h : HeapState). record h { colours = d.heap.colours; delayed = d.heap.delayed })
        done.0.spreads.blackens.rest
        ∙ ap (λ z. record c.heap { colours = d.heap.colours; delayed = z }) delayed;
    sized = sym (flown_length flying 0 d.heap.colours)
        ∙ (done.0.spreads.blackens.sized ∙ flown_length flown 0 c.heap.colours);
    still = λ none. absurd (cc none);
    covers = done.1;
  })
  goes_through (inr p) = (let done = prepares p in record {
    marking = λ m. absurd (no_other m p);
    preparing = λ q. done;
    rest = rest;
    heap_is = done.0.rest;
    sized = done.0.sized;
    still = λ none. absurd (cc none);
    covers = subst (λ z. Covers d.heap.shape z) (sym done.1)
        (subst (λ (h : HeapState). Covers h.shape flown) (sym done.0.rest) covers);
  })
