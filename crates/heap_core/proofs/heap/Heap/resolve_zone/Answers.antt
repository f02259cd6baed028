use Rattle.std.proofs.Common.{arith}
use Rattle.heap_core.specs.Heap.{with_marks}
use Rattle.heap_core.proofs.Resolved.{plans-zone}
use Rattle.heap_core.proofs.heap.Heap.resolve_zone.Goals as goal

pub returns-clause-plan : goal.returns-clause-plan
returns-clause-plan c =
    rw c.of.ensures (λ ds d. plans-zone (with_marks c.args.self.now ds d) (omega arith) (omega arith))
