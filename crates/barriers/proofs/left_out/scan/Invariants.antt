use Rattle.std.proofs.Common.{◌≤◌, ◌+◌}
use Rattle.heap_core.specs.Heap.{without_delayed}
use Rattle.barriers.specs.Pending.{pending}
use Rattle.barriers.proofs.LeftOut.{ScannedLeftOut}
use Rattle.barriers.proofs.left_out.scan.Given as goal

abbrev pub invariant-loop-i : goal.invariant-loop-i
invariant-loop-i g l = record {
  scanned : ScannedLeftOut l.place l.i (without_delayed l.fn.heap) (pending l.fn.heap l.fn.stack)
      (without_delayed l.heap) (pending l.heap l.stack);
  steps : l.steps ≤ l.fn.steps + l.i;
}
