use Rattle.heap_core.specs.Heap.{with_marks}
use Rattle.heap_core.proofs.Resolved.{plans-new}
use Rattle.heap_core.proofs.heap.Heap.resolve_new.Goals as goal

pub returns-clause-plan : goal.returns-clause-plan
returns-clause-plan c =
    rw c.of.ensures (λ ds d. plans-new (with_marks c.args.self.now ds d) c.args.r c.args.c c.args.n c.zone_of.result
    (record { home = c.zone_of.ensures.value; made = c.zone_of.ensures.made }))
