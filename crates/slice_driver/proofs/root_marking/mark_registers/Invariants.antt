use Rattle.std.proofs.Common.{◌+◌}
use Rattle.heap_core.specs.Heap.{without_delayed}
use Rattle.barriers.specs.Pending.{pending}
use Rattle.slice_driver.specs.RootMarking.{IsHeldBefore, Marks}
use Rattle.slice_driver.proofs.root_marking.mark_registers.Given as goal

abbrev pub invariant-loop-index : goal.invariant-loop-index
invariant-loop-index l = record {
  marks : Marks (IsHeldBefore l.fn.heap.shape l.index) l.zones (without_delayed l.fn.heap)
      (pending l.fn.heap l.fn.stack) (without_delayed l.heap) (pending l.heap l.stack);
}

abbrev pub invariant-loop-root : goal.invariant-loop-root
invariant-loop-root l = record {
  marks : Marks (IsHeldBefore l.fn.heap.shape (16 + l.root)) l.zones (without_delayed l.fn.heap)
      (pending l.fn.heap l.fn.stack) (without_delayed l.heap) (pending l.heap l.stack);
}
