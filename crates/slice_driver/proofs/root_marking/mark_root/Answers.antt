use Rattle.heap_core.proofs.Added.{arena_made}
use Rattle.slice_driver.proofs.beginning.MarkedRoots.{marks_black}
use Rattle.slice_driver.proofs.root_marking.mark_root.Goals as goal

pub mark_black-requires-clause-made : goal.mark_black-requires-clause-made
mark_black-requires-clause-made c = arena_made c.args.heap.now.shape c.args.place c.requires.present

pub returns-then-lies_in : goal.returns-then-lies_in
returns-then-lies_in c = marks_black _ _ _ _ _ _ (c.lies_in.ensures.0 c.if-lies_in.true)
    c.mark_black.ensures
