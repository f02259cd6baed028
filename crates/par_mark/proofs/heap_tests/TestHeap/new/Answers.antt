use Rattle.par_mark.proofs.TestHeaps.{begun}
use Rattle.par_mark.proofs.heap_tests.TestHeap.new.Goals as goal

pub invariant_of-result : goal.invariant_of-result
invariant_of-result c = begun c.in_ok-heap.heap c.in_ok-heap.ensures.empty c.in_ok-heap.ensures.sound
