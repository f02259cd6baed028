use Rattle.heap_core.specs.contracts.heap.Heap.{the_view}
use Rattle.heap_core.proofs.WritingFields.{values-within, writes-seen}
use Rattle.heap_core.proofs.NotedTargets.{noted-written, stands-other}
use Rattle.heap_core.proofs.heap.Heap.set_field.Goals as goal

pub set_field-requires-clause-value : goal.set_field-requires-clause-value
set_field-requires-clause-value c = values-within (the_view c.self.inside) c.args.self.now c.self.inside.arenas c.args.v
    c.self.view_is c.requires.value

pub returns : goal.returns
returns c = writes-seen (the_view c.self.inside) c.args.self.now c.self.inside.arenas c.set_field.new.self c.args.place
    c.args.f c.args.v c.self.view_is c.set_field.ensures.state c.set_field.ensures.cells

pub invariant_of-self : goal.invariant_of-self
invariant_of-self c = noted-written c.self.inside.arenas c.set_field.new.self c.args.place c.args.f c.args.v _
    c.set_field.ensures.state c.set_field.ensures.cells
    (stands-other (the_view c.self.inside) c.args.self.now c.self.inside.arenas c.args.place c.args.f c.self.view_is
    c.requires.field c.requires.other) c.self.invariant
