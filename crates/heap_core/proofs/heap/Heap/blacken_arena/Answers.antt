use Rattle.heap_core.specs.contracts.heap.Heap.{the_view}
use Rattle.heap_core.proofs.Views.{blackened-seen}
use Rattle.heap_core.proofs.NotedTargets.{noted-set_bits}
use Rattle.heap_core.proofs.heap.Heap.blacken_arena.Goals as goal

pub returns : goal.returns
returns c = blackened-seen (the_view c.self.inside) c.args.self.now c.self.inside.arenas c.set_bits.new.self
    c.args.arena
    c.alloc_word-black.result _ c.self.view_is c.requires.kept c.alloc_word-black.ensures.word c.bits-gob.ensures
    c.set_bits.ensures

pub invariant_of-self : goal.invariant_of-self
invariant_of-self c = noted-set_bits c.self.inside.arenas c.set_bits.new.self c.args.arena _ _ c.set_bits.ensures
    c.self.invariant
