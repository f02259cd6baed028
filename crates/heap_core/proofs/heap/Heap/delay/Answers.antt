use Rattle.heap_core.specs.contracts.heap.Heap.{the_view}
use Rattle.heap_core.proofs.NotedTargets.{noted-delayed}
use Rattle.heap_core.proofs.Views.{delayed-seen, fresh-seen, made-seen, more-seen}
use Rattle.heap_core.proofs.heap.Heap.delay.Goals as goal

pub delay-requires-clause-made : goal.delay-requires-clause-made
delay-requires-clause-made c = made-seen (the_view c.self.inside) c.args.self.now c.self.inside.arenas c.args.place.0
    c.self.view_is c.requires.made

pub delay-requires-clause-fresh : goal.delay-requires-clause-fresh
delay-requires-clause-fresh c = fresh-seen (the_view c.self.inside) c.args.self.now c.self.inside.arenas c.args.pile
    c.args.place c.self.view_is c.requires.fresh

pub invariant_of-self : goal.invariant_of-self
invariant_of-self c = noted-delayed c.self.inside.arenas c.delay.new.self _ c.delay.ensures.rest c.self.invariant

pub returns-clause-more : goal.returns-clause-more
returns-clause-more c = more-seen (the_view c.self.inside) c.args.self.now c.self.inside.arenas c.delay.new.self
    c.args.pile c.args.place c.self.view_is c.delay.ensures.more

pub returns-clause-rest : goal.returns-clause-rest
returns-clause-rest c = delayed-seen (the_view c.self.inside) c.args.self.now c.self.inside.arenas
    c.delay.new.self c.self.view_is c.delay.ensures.rest
