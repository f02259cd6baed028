use Rattle.heap_core.specs.contracts.heap.Heap.{the_view}
use Rattle.heap_core.proofs.Taking.{taken-stored}
use Rattle.heap_core.proofs.Views.{take_in-seen}
use Rattle.heap_core.proofs.NotedTargets.{noted-taken}
use Rattle.heap_core.proofs.heap.Heap.take_in.Goals as goal

pub returns-clause-state : goal.returns-clause-state
returns-clause-state c = take_in-seen (the_view c.self.inside) c.args.self.now c.self.inside.arenas c.take_in.new.self
    c.args.arena c.args.freed c.args.bits c.self.view_is c.take_in.ensures.state

pub returns-clause-stored : goal.returns-clause-stored
returns-clause-stored c = taken-stored (the_view c.self.inside) c.args.self.now c.self.inside.arenas c.take_in.new.self
    c.args.arena c.args.freed c.self.view_is c.take_in.ensures.cells

pub invariant_of-self : goal.invariant_of-self
invariant_of-self c = noted-taken c.self.inside.arenas c.take_in.new.self c.args.arena c.args.freed c.args.bits _
    c.take_in.ensures.state c.take_in.ensures.cells c.self.invariant
