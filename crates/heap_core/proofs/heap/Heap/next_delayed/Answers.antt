use Rattle.heap_core.specs.contracts.heap.Heap.{the_view}
use Rattle.heap_core.proofs.NotedTargets.{noted-delayed}
use Rattle.heap_core.proofs.Views.{delayed-seen, none-seen, some-seen}
use Rattle.heap_core.proofs.heap.Heap.next_delayed.Goals as goal

pub invariant_of-self : goal.invariant_of-self
invariant_of-self c =
    noted-delayed c.self.inside.arenas c.next_delayed.new.self _ c.next_delayed.ensures.rest c.self.invariant

pub returns-clause-some : goal.returns-clause-some
returns-clause-some c = some-seen (the_view c.self.inside) c.args.self.now c.self.inside.arenas
    c.next_delayed.new.self c.args.pile c.next_delayed.result c.self.view_is c.next_delayed.ensures.some

pub returns-clause-none : goal.returns-clause-none
returns-clause-none c = none-seen (the_view c.self.inside) c.args.self.now c.self.inside.arenas
    c.next_delayed.new.self c.args.pile c.next_delayed.result c.self.view_is c.next_delayed.ensures.none

pub returns-clause-rest : goal.returns-clause-rest
returns-clause-rest c = delayed-seen (the_view c.self.inside) c.args.self.now c.self.inside.arenas
    c.next_delayed.new.self c.self.view_is c.next_delayed.ensures.rest
