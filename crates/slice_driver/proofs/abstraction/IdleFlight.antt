-- Where no collection runs, nothing is in flight.
use Rattle.std.proofs.Common.{◌≡◌, ℕ, Option, Some, None, is_some, false, ap, refl, subst}
use Rattle.cell_bits.specs.declared.bits.Bits.{Bits}
use Rattle.colour_defs.specs.World.{World, Collection}
use Rattle.heap_core.specs.Heap.{HeapState}
use Rattle.heap_core.specs.Shape.{out_of}
use Rattle.slice_driver.specs.Collector.{CollectorState, RunState, heap_with}
use Rattle.slice_driver.specs.Represents.{Represents, RunsAs}
use Rattle.slice_driver.specs.Units.{IsSound, IsSoundMarking, none_flown}
use Rattle.slice_driver.proofs.abstraction.Phases.{marking_of, none_idle, sound_marking}

none_out : (h : HeapState) (c : CollectorState) (w : World) (r : Option RunState) (k : Option Collection) →
    RunsAs h c w r k → r ≡ None → (a : ℕ) → out_of c.heap.shape a ≡ None
none_out h c w None None runs e a = runs.kept a
none_out h c w None (Some k) runs e a = absurd runs
none_out h c w (Some r) k runs e a = absurd (cc e)

is_none : (o p : Option Bits) → is_some o ≡ is_some p → p ≡ None → o ≡ None
is_none None p e k = refl
is_none (Some x) p e k = absurd (let s : is_some p ≡ false = ap is_some k in cc (e, s))

pub idle_flown : (c : CollectorState) (f : ℕ → Option Bits) (w : World) → Represents c f w → c.run ≡ None
    → f ≡ none_flown
idle_flown c f w rep e =
    let m = marking_of c f w (none_idle c f w e) rep in
    λ i a. is_none (f a) (out_of c.heap.shape a) (m.swept.flies.covers a)
    (none_out (heap_with c f) c w c.run w.collection m.phase.runs e a) i

pub idle_sound : (c : CollectorState) (f : ℕ → Option Bits) → IsSound c f → c.run ≡ None
    → IsSoundMarking c none_flown
idle_sound c f s e = sound_marking c none_flown (λ w. none_idle c none_flown w e)
    (subst (λ (g : ℕ → Option Bits). IsSound c g) (idle_flown c f s.world s.represents e) s)
