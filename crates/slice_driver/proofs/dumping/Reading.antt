-- Colours are read of what a collector stands for, also while a collection is being prepared.
use Rattle.std.proofs.Common.{◌≡◌, ◌<◌, ℕ, length, Option, None, is_some, ap, subst, ◌∙◌, arith}
use Rattle.gz_names.specs.declared.numbers.Place.{Place}
use Rattle.cell_bits.specs.declared.bits.Bits.{Bits}
use Rattle.mark_stack.specs.Stack.{no_places}
use Rattle.colour_defs.specs.World.{World}
use Rattle.heap_core.specs.Heap.{HeapState, joined}
use Rattle.heap_core.specs.Shape.{IsPresent, out_of}
use Rattle.barriers.specs.Colours.{IsSeen}
use Rattle.barriers.specs.Spreading.{Covers}
use Rattle.barriers.proofs.Flying.{flown_length}
use Rattle.slice_driver.specs.Collector.{CollectorState, heap_with}
use Rattle.slice_driver.specs.Represents.{Represents, RepresentsPreparing, going, prepared}
use Rattle.slice_driver.proofs.group_end.Ready.{joined_none, no_some}
use Rattle.slice_driver.proofs.marking.MarkingUnits.{same_worlds}

-- where no arena is out, all bits are the heap's
pub joined_own : (h : HeapState) (flown : ℕ → Option Bits) → Covers h.shape flown → ((a : ℕ) → out_of h.shape a ≡ None)
    → h.delayed ≡ no_places → joined h flown ≡ h
joined_own h flown covers none delayed = joined_none h flown delayed
    (λ a. no_some (flown a) (covers a ∙ ap (λ (o : Option Bits). is_some o) (none a)))

pub preparing_joined : (c : CollectorState) (flown : ℕ → Option Bits) (w : World) → RepresentsPreparing c flown w
    → heap_with c flown ≡ c.heap
preparing_joined c flown w rep =
    joined_own c.heap flown rep.swept.flies.covers rep.none_out rep.placed.delayed

-- bits were read that stand for the same heap
pub reads_same : (c : CollectorState) (flown flying : ℕ → Option Bits) (w : World) → Covers c.heap.shape flying
    → heap_with c flying ≡ heap_with c flown → Represents c flown w → Represents c flying w
reads_same c flown flying w covers same (going m) = going (same_worlds c flown flying w covers same m)
reads_same c flown flying w covers same (prepared p) = prepared (record {
  run = p.run;
  run_is = p.run_is;
  uncleared = p.uncleared;
  clearing = p.clearing;
  unformed = p.unformed;
  placed = p.placed;
  swept = record {
    apart = p.swept.apart;
    flies = record {
      covers = covers;
      woken = λ a old new out at. absurd (let none = p.none_out a in cc (none, out));
    };
  };
  none_out = p.none_out;
  cleared = p.cleared;
  phase = p.phase;
})

-- each arena has colours
pub arena_coloured : (c : CollectorState) (flown : ℕ → Option Bits) (w : World) (a : ℕ) → Represents c flown w
    → a < length c.heap.shape.arenas → a < length c.heap.colours
arena_coloured c flown w a (prepared p) lt = (let n = p.cleared.invariant.holds.colours.sized in omega (arith, n, lt))
arena_coloured c flown w a (going s) lt =
    let n = s.coloured.marks.holds.colours.sized in
    let m = flown_length flown 0 c.heap.colours in
    omega (arith, n, m, lt)

-- only present cells are gray or black
pub seen_present : (c : CollectorState) (flown : ℕ → Option Bits) (w : World) → Represents c flown w → (p : Place)
    → IsSeen (heap_with c flown) p → IsPresent c.heap.shape p
seen_present c flown w (going s) p seen = s.coloured.marks.holds.colours.seen_present p seen
seen_present c flown w (prepared s) p seen = s.cleared.invariant.holds.colours.seen_present p
    (subst (λ (h : HeapState). IsSeen h p) (preparing_joined c flown w s) seen)
