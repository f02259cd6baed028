use Rattle.heap_core.specs.Heap.{with_marks}
use Rattle.heap_core.proofs.Resolved.{plans-map}
use Rattle.heap_core.proofs.heap.Heap.resolve_map.Goals as goal

pub returns-clause-plan : goal.returns-clause-plan
returns-clause-plan c =
    rw c.of.ensures (λ ds d. plans-map (with_marks c.args.self.now ds d) c.args.r c.args.c c.zone_of.result
    (record { home = c.zone_of.ensures.value; made = c.zone_of.ensures.made }))
