use Rattle.std.proofs.Common.{inl, ap}
use Rattle.heap_core.specs.Heap.{HeapState, without_delayed}
use Rattle.barriers.specs.Pending.{pending}
use Rattle.slice_driver.proofs.beginning.MarkedRoots.{blackened_fresh, blackened_made, blackened_queued}
use Rattle.slice_driver.proofs.root_marking.mark_black.Goals as goal

pub queue-requires-clause-made : goal.queue-requires-clause-made
queue-requires-clause-made c =
    blackened_made c.args.heap.now c.mark_black.new.self c.args.place c.if-mark_black.ensures c.requires.made

pub queue-requires-clause-fresh : goal.queue-requires-clause-fresh
queue-requires-clause-fresh c =
    blackened_fresh c.args.heap.now c.mark_black.new.self c.args.stack.now c.args.place c.requires.ready
    c.if-mark_black.ensures

pub returns-then-mark_black : goal.returns-then-mark_black
returns-then-mark_black c =
    blackened_queued c.args.heap.now c.mark_black.new.self c.queue.new.heap c.args.stack.now c.queue.new.stack
    c.args.place c.if-mark_black.ensures c.queue.ensures.more c.queue.ensures.rest

pub returns-else-mark_black : goal.returns-else-mark_black
returns-else-mark_black c =
    let was = c.if-mark_black.ensures in
    inl (was.0, ap without_delayed was.1, ap (λ (h : HeapState). pending h c.args.stack.now) was.1)
