use Rattle.std.proofs.Common.{◌-◌, length}
use Rattle.wrappers.specs.WrapperMaps.{list_of}
use Rattle.heap_core.specs.Heap.{without_delayed}
use Rattle.barriers.specs.Pending.{pending}
use Rattle.slice_driver.specs.RootMarking.{IsTargetBefore, Marks}
use Rattle.slice_driver.proofs.root_marking.mark_targets_of.Given as goal

abbrev pub invariant-loop-wrapper : goal.invariant-loop-wrapper
invariant-loop-wrapper g l = record {
  marks : Marks (IsTargetBefore (without_delayed l.fn.heap) l.zone l.cursor) l.zones (without_delayed l.fn.heap)
      (pending l.fn.heap l.fn.stack) (without_delayed l.heap) (pending l.heap l.stack);
}

abbrev pub decreases-loop-wrapper : goal.decreases-loop-wrapper
decreases-loop-wrapper g l = length (list_of l.fn.heap.shape.wrappers l.zone) - l.cursor
