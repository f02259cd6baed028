-- The heap of an idle collector may be compacted.
use Rattle.std.proofs.Common.{◌≡◌, ℕ, Option, None, sym, subst}
use Rattle.cell_bits.specs.declared.bits.Bits.{Bits}
use Rattle.colour_defs.specs.World.{Collection, World}
use Rattle.heap_core.specs.Moving.{MayRelocate}
use Rattle.barriers.specs.Invariant.{ShapeInvariant}
use Rattle.slice_driver.specs.Collector.{CollectorState, RunState, heap_with}
use Rattle.slice_driver.specs.Represents.{IsIdle, RepresentsMarking, RunsAs}
use Rattle.slice_driver.specs.Units.{IsSound}
use Rattle.slice_driver.specs.Worlds.{LiesIn}
use Rattle.slice_driver.proofs.abstraction.Moving.{field_below}
use Rattle.slice_driver.proofs.abstraction.Phases.{marking_of, none_idle}
use Rattle.slice_driver.proofs.beginning.Begun.{none_runs}

may_relocate : (c : CollectorState) (flown : ℕ → Option Bits) (w : World) → RepresentsMarking c flown w → IsIdle c
    → MayRelocate c.heap
may_relocate c flown w rep idle =
    let l : LiesIn c.heap w = rep.placed.lies in
    let shape : ShapeInvariant c.heap.shape = rep.coloured.marks.holds.colours.shape in
    record {
      sound = (l.graph, l.shown);
      whole = l.whole;
      kept = idle.kept;
      made = shape.made;
      across = λ p q f held apart. (shape.across p q f (field_below c.heap l.graph l.shown p q f held) held
          (λ same. apart (sym same))).0;
      delegates = λ m k v d entry is. (shape.delegates m k v d entry).1 is;
      slots_held = l.weak_are.slots_held;
      watched_held = l.weak_are.watched_held;
    }

pub may_idle : (c : CollectorState) (flown : ℕ → Option Bits) → IsSound c flown → c.run ≡ None → MayRelocate c.heap
may_idle c flown s idle =
    let rep = marking_of c flown s.world (none_idle c flown s.world idle) s.represents in
    may_relocate c flown s.world rep
    (subst (λ (k : Option Collection). RunsAs (heap_with c flown) c s.world None k) (none_runs c flown s.world idle rep)
    (subst (λ (r : Option RunState). RunsAs (heap_with c flown) c s.world r s.world.collection) idle rep.phase.runs))
