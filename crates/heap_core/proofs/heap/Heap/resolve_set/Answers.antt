use Rattle.heap_core.specs.Heap.{with_marks}
use Rattle.heap_core.proofs.Resolved.{plans-set, shows_coloured, writable_coloured}
use Rattle.heap_core.proofs.heap.Heap.resolve_set.Goals as goal

pub returns-in-Ok-clause-plan : goal.returns-in-Ok-clause-plan
returns-in-Ok-clause-plan c = λ ds d. (let h = c.args.self.now in
    plans-set (with_marks h ds d) c.requires.sound.0 c.args.s c.args.f c.args.t.now c.in-Ok.place c.field.result
    c.value_to_set.result
    (shows_coloured h ds d c.requires.sound.0 c.requires.sound.1)
    (writable_coloured h ds d c.args.s c.args.f c.args.t.now c.in-Ok.place c.in-Ok.ensures.ok)
    c.field.ensures c.value_to_set.ensures)
