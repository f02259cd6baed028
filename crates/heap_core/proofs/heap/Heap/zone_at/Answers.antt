use Rattle.heap_core.specs.contracts.heap.Heap.{the_view}
use Rattle.heap_core.proofs.NotedTargets.{present-stands}
use Rattle.heap_core.proofs.heap.Heap.zone_at.Goals as goal

pub zone_at-requires : goal.zone_at-requires
zone_at-requires c = present-stands (the_view c.self.inside) c.args.self.now c.self.inside.arenas c.args.place
    c.self.view_is c.requires
