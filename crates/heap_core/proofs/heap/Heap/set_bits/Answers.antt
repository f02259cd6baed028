use Rattle.heap_core.specs.contracts.heap.Heap.{the_view}
use Rattle.heap_core.proofs.Views.{set_bits-seen}
use Rattle.heap_core.proofs.NotedTargets.{noted-set_bits}
use Rattle.heap_core.proofs.heap.Heap.set_bits.Goals as goal

pub returns : goal.returns
returns c = set_bits-seen (the_view c.self.inside) c.args.self.now c.self.inside.arenas c.set_bits.new.self c.args.arena
    c.args.bits c.self.view_is c.requires.kept c.set_bits.ensures

pub invariant_of-self : goal.invariant_of-self
invariant_of-self c = noted-set_bits c.self.inside.arenas c.set_bits.new.self c.args.arena c.args.bits _
    c.set_bits.ensures c.self.invariant
