use Rattle.std.proofs.Common.{◌≡◌, ◌-◌, List, length}
use Rattle.gz_names.specs.declared.numbers.Place.{Place}
use Rattle.heap_core.specs.Heap.{joined}
use Rattle.barriers.specs.Invariant.{InvariantWhile}
use Rattle.barriers.specs.Parts.{listed_of}
use Rattle.barriers.specs.Pending.{pending}
use Rattle.barriers.specs.Spreading.{Covers}
use Rattle.barriers.proofs.Loops.{marking_walk}
use Rattle.barriers.proofs.Walks.{EntriesSeen}
use Rattle.barriers.proofs.woken.follow_some_entries.Given as goal

abbrev pub invariant-loop-entry : goal.invariant-loop-entry
invariant-loop-entry g l = record {
  seen : (followed : List Place)
      → InvariantWhile followed (joined l.fn.heap (g.F.Flight.bits l.fn.flight)) (pending l.fn.heap l.fn.stack)
      → EntriesSeen (marking_walk followed) (listed_of l.fn.heap.shape.weak l.part l.place) l.index
      (joined l.fn.heap (g.F.Flight.bits l.fn.flight)) (pending l.fn.heap l.fn.stack)
      (joined l.heap (g.F.Flight.bits l.flight)) (pending l.heap l.stack);
  covers : Covers l.heap.shape (g.F.Flight.bits l.flight);
  origin : g.F.Flight.origin l.flight ≡ g.F.Flight.origin l.fn.flight;
}

abbrev pub decreases-loop-entry : goal.decreases-loop-entry
decreases-loop-entry g l = length (listed_of l.heap.shape.weak l.part l.place) - l.index
