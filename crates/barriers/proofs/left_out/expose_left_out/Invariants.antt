use Rattle.std.proofs.Common.{◌+◌, [], length}
use Rattle.heap_core.specs.Heap.{without_delayed}
use Rattle.barriers.specs.Colours.{left}
use Rattle.barriers.specs.Pending.{pending}
use Rattle.barriers.proofs.LeftOut.{left_out_walk}
use Rattle.barriers.proofs.Walks.{Drains}
use Rattle.barriers.proofs.left_out.expose_left_out.Given as goal

abbrev pub invariant-loop-woken : goal.invariant-loop-woken
invariant-loop-woken g l = Drains (left_out_walk []) (without_delayed l.initial.heap)
    (pending l.initial.heap l.initial.stack) l.initial.steps (without_delayed l.heap) (pending l.heap l.stack) l.steps

abbrev pub decreases-loop-woken : goal.decreases-loop-woken
decreases-loop-woken g l =
    left l.heap + (length (pending l.heap l.stack).black + length (pending l.heap l.stack).wake)
