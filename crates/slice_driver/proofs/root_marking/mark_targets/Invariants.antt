use Rattle.heap_core.specs.Heap.{without_delayed}
use Rattle.barriers.specs.Pending.{pending}
use Rattle.slice_driver.specs.RootMarking.{IsTargetAmong, Marks}
use Rattle.slice_driver.proofs.root_marking.mark_targets.Given as goal

abbrev pub invariant-loop-index : goal.invariant-loop-index
invariant-loop-index g l = record {
  marks : Marks (IsTargetAmong (without_delayed l.fn.heap) l.zones l.index) l.zones (without_delayed l.fn.heap)
      (pending l.fn.heap l.fn.stack) (without_delayed l.heap) (pending l.heap l.stack);
}
