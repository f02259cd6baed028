use Rattle.heap_core.specs.Heap.{with_marks}
use Rattle.heap_core.proofs.Resolved.{entry_coloured, plans-put, shows_coloured}
use Rattle.heap_core.proofs.heap.Heap.resolve_put.Goals as goal

pub returns-in-Ok-clause-plan : goal.returns-in-Ok-clause-plan
returns-in-Ok-clause-plan c = λ ds d. (let h = c.args.self.now in let e = c.in-Ok.entry in
    plans-put (with_marks h ds d) c.requires.sound.0 c.args.m c.args.k c.args.v e.map e.key e.value c.find_entry.result
    (shows_coloured h ds d c.requires.sound.0 c.requires.sound.1)
    (entry_coloured h ds d c.args.m c.args.k c.args.v e.map e.key e.value c.in-Ok.ensures.ok) c.find_entry.ensures)
