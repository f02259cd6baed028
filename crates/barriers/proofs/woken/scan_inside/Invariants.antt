use Rattle.std.proofs.Common.{◌≡◌, ◌+◌, List}
use Rattle.gz_names.specs.declared.numbers.Place.{Place}
use Rattle.heap_core.specs.Heap.{joined}
use Rattle.barriers.specs.Invariant.{InvariantWhile}
use Rattle.barriers.specs.Pending.{pending}
use Rattle.barriers.specs.Spreading.{Covers}
use Rattle.barriers.proofs.Loops.{ScannedMarking}
use Rattle.barriers.proofs.woken.scan_inside.Given as goal

abbrev pub invariant-loop-i : goal.invariant-loop-i
invariant-loop-i g l = record {
  scanned : (followed : List Place)
      → InvariantWhile followed (joined l.fn.heap (g.F.Flight.bits l.fn.flight)) (pending l.fn.heap l.fn.stack)
      → ScannedMarking followed l.place l.i (joined l.fn.heap (g.F.Flight.bits l.fn.flight))
      (pending l.fn.heap l.fn.stack) (joined l.heap (g.F.Flight.bits l.fn.flight)) (pending l.heap l.stack);
  covers : Covers l.heap.shape (g.F.Flight.bits l.fn.flight);
  steps : l.steps ≡ l.fn.steps + l.i;
}
