use Rattle.std.proofs.Common.{arith}
use Rattle.heap_core.specs.Heap.{with_marks}
use Rattle.heap_core.proofs.Resolved.{plans-comp}
use Rattle.heap_core.proofs.heap.Heap.resolve_comp.Goals as goal

pub returns-clause-plan : goal.returns-clause-plan
returns-clause-plan c =
    rw c.of.ensures (λ ds d. plans-comp (with_marks c.args.self.now ds d) c.args.z (omega arith) (omega arith)
    (omega arith))
