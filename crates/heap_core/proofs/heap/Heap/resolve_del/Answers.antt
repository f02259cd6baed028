use Rattle.heap_core.specs.Heap.{with_marks}
use Rattle.heap_core.proofs.Resolved.{entry_coloured, plans-del, shows_coloured}
use Rattle.heap_core.proofs.heap.Heap.resolve_del.Goals as goal

pub returns-in-Ok-clause-plan : goal.returns-in-Ok-clause-plan
returns-in-Ok-clause-plan c = λ ds d. (let h = c.args.self.now in let e = c.in-Ok.entry in
    plans-del (with_marks h ds d) c.requires.sound.0 c.args.m c.args.k e.map e.key e.value c.find_entry.result
    (shows_coloured h ds d c.requires.sound.0 c.requires.sound.1)
    (entry_coloured h ds d c.args.m c.args.k c.args.k e.map e.key e.value c.in-Ok.ensures.ok) c.find_entry.ensures)
