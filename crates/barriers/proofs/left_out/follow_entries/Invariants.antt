use Rattle.std.proofs.Common.{◌∷◌, [], ◌-◌, length}
use Rattle.heap_core.specs.Heap.{without_delayed}
use Rattle.barriers.specs.Parts.{listed_of}
use Rattle.barriers.specs.Pending.{pending}
use Rattle.barriers.proofs.LeftOut.{left_out_walk}
use Rattle.barriers.proofs.Walks.{EntriesSeen}
use Rattle.barriers.proofs.left_out.follow_entries.Given as goal

abbrev pub invariant-loop-entry : goal.invariant-loop-entry
invariant-loop-entry l = EntriesSeen (left_out_walk (l.place ∷ [])) (listed_of l.fn.heap.shape.weak l.part l.place)
    l.index
    (without_delayed l.fn.heap) (pending l.fn.heap l.fn.stack) (without_delayed l.heap) (pending l.heap l.stack)

abbrev pub decreases-loop-entry : goal.decreases-loop-entry
decreases-loop-entry l = length (listed_of l.heap.shape.weak l.part l.place) - l.index
