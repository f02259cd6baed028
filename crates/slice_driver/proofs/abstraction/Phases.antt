-- Which of its two forms a collector's abstraction has, by how far its collection is.
use Rattle.std.proofs.Common.{◌≡◌, ℕ, None, Option, Some, IsSome, refl, sym, ap, ◌∙◌}
use Rattle.cell_bits.specs.declared.bits.Bits.{Bits}
use Rattle.colour_defs.specs.World.{Collection, World}
use Rattle.heap_core.specs.Heap.{HeapState}
use Rattle.heap_core.specs.Shape.{out_of}
use Rattle.slice_driver.specs.Left.{marking_left, starting_left}
use Rattle.slice_driver.specs.Collector.{CollectorState, RunState, heap_with}
use Rattle.slice_driver.specs.Quiet.{IsFormed, IsStarted}
use Rattle.slice_driver.specs.Remaining.{clearing_left, left_of}
use Rattle.slice_driver.specs.Represents.{IsBeingSwept, IsPlaced, Represents, RepresentsMarking, RepresentsPreparing}
use Rattle.slice_driver.specs.Represents.{RunsAs, going, prepared}
use Rattle.slice_driver.specs.Units.{IsSound, IsSoundMarking}
use Rattle.slice_driver.specs.Working.{IsAtStart}
use Rattle.slice_driver.proofs.abstraction.Named.{some_one}

-- nothing is being prepared, where that cannot be
pub marking_of : (c : CollectorState) (flown : ℕ → Option Bits) (w : World) → (RepresentsPreparing c flown w → ⊥)
    → Represents c flown w → RepresentsMarking c flown w
marking_of c flown w none (going m) = m
marking_of c flown w none (prepared p) = absurd (none p)

-- marking has begun
pub none_started : (c : CollectorState) (flown : ℕ → Option Bits) (w : World) → IsStarted c
    → RepresentsPreparing c flown w → ⊥
none_started c flown w started p =
    (let same : started.0 ≡ p.run = some_one _ _ (sym started.1 ∙ p.run_is) in
    let clearing = ap (λ (r : RunState). r.clearing) same in
    cc (started.2, clearing, p.clearing))

-- the groups are formed
pub none_formed : (c : CollectorState) (flown : ℕ → Option Bits) (w : World) → IsFormed c
    → RepresentsPreparing c flown w
    → ⊥
none_formed c flown w formed p =
    (let same : formed.0 ≡ p.run = some_one _ _ (sym formed.1 ∙ p.run_is) in
    let bits = ap (λ (r : RunState). r.formed) same in
    cc (formed.2, bits, p.unformed))

-- an arena is out
pub none_out : (c : CollectorState) (flown : ℕ → Option Bits) (w : World) (a : ℕ) → IsSome (out_of c.heap.shape a)
    → RepresentsPreparing c flown w → ⊥
none_out c flown w a some p = (let none = p.none_out a in cc (none, some))

-- no collection runs
pub none_idle : (c : CollectorState) (flown : ℕ → Option Bits) (w : World) → c.run ≡ None
    → RepresentsPreparing c flown w
    → ⊥
none_idle c flown w idle p = cc (idle, p.run_is)

-- nor is anything in the world
pub calm_marking : (c : CollectorState) (flown : ℕ → Option Bits) (w : World) → w.preparing ≡ None
    → Represents c flown w
    → RepresentsMarking c flown w
calm_marking c flown w calm r = marking_of c flown w (λ p. (let is = p.phase.preparing_is in cc (calm, is))) r

pub sound_marking : (c : CollectorState) (flown : ℕ → Option Bits)
    → ((w : World) → RepresentsPreparing c flown w → ⊥) → IsSound c flown → IsSoundMarking c flown
sound_marking c flown none s = record {
  world = s.world;
  valid = s.valid;
  represents = marking_of c flown s.world (none s.world) s.represents;
}

-- where cells lie, and what is being swept, whatever the phase
pub placed_in : (c : CollectorState) (flown : ℕ → Option Bits) (w : World) → Represents c flown w → IsPlaced c.heap w
placed_in c flown w (going m) = m.placed
placed_in c flown w (prepared p) = p.placed

pub swept_of : (c : CollectorState) (flown : ℕ → Option Bits) (w : World) → Represents c flown w
    → IsBeingSwept c.heap.shape flown
swept_of c flown w (going m) = m.swept
swept_of c flown w (prepared p) = p.swept

pub sound_of : (c : CollectorState) (flown : ℕ → Option Bits) → IsSoundMarking c flown → IsSound c flown
sound_of c flown s = record { world = s.world; valid = s.valid; represents = going s.represents }

-- once marking has begun nothing is to be cleared
pub none_to_clear : (c : CollectorState) → IsStarted c → clearing_left c.heap.shape c.run ≡ 0
none_to_clear c started = ap (clearing_left c.heap.shape) started.1
    ∙ ap (left_of c.heap.shape started.0.zones) started.2

-- and marking is not to begin
pub not_at_start : (c : CollectorState) → IsStarted c → IsAtStart c → ⊥
not_at_start c started at =
    (let same : started.0 ≡ at.run = some_one _ _ (sym started.1 ∙ at.run_is) in
    let clearing = ap (λ (r : RunState). r.clearing) same in
    let some = at.clearing in
    cc (started.2, clearing, some))

-- a collection that runs in a collector that stands for such a world has begun its marking
started_as : (c : CollectorState) (h : HeapState) (w : World) (o : Option RunState) (k : Option Collection) → c.run ≡ o
    → RunsAs h c w o k → IsSome o → IsStarted c
started_as c h w None k e i some = absurd (cc some)
started_as c h w (Some r) None e i some = absurd i
started_as c h w (Some r) (Some k) e i some = (r, e, i.started)

pub started_of : (c : CollectorState) (flown : ℕ → Option Bits) (w : World) → RepresentsMarking c flown w
    → IsSome c.run → IsStarted c
started_of c flown w rep some =
    started_as c (heap_with c flown) w c.run w.collection refl rep.phase.runs some

-- while an arena is out the collection that runs has begun its marking
pub due_started : (c : CollectorState) (flown : ℕ → Option Bits) → IsSound c flown → (a : ℕ)
    → IsSome (out_of c.heap.shape a) → IsSome c.run → IsStarted c
due_started c flown s a out running =
    let marking = sound_marking c flown (λ w. none_out c flown w a out) s in
    started_of c flown marking.world marking.represents running

-- nothing is to be cleared, nor is marking to begin
pub nothing_to_clear : (c : CollectorState) (flown : ℕ → Option Bits) (w : World) → RepresentsMarking c flown w
    → (clearing_left c.heap.shape c.run ≡ 0) × (marking_left c.heap.shape c.run ≡ 0)
nothing_to_clear c flown w rep = go c.run w.collection rep.phase.runs
  where
    go : (o : Option RunState) (k : Option Collection) → RunsAs (heap_with c flown) c w o k
        → (clearing_left c.heap.shape o ≡ 0) × (marking_left c.heap.shape o ≡ 0)
    go None None i = (refl, refl)
    go None (Some k) i = absurd i
    go (Some r) None i = absurd i
    go (Some r) (Some k) i =
        (ap (left_of c.heap.shape r.zones) i.started, ap (starting_left c.heap.shape) i.started)
