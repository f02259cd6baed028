use Rattle.std.proofs.Common.{inl}
use Rattle.barriers.proofs.Queueing.{pending_same}
use Rattle.marker.proofs.Queued.{grayed_fresh, grayed_pending, grayed_within}
use Rattle.marker.proofs.shades.shade.Goals as goal

pub queue-requires-clause-made : goal.queue-requires-clause-made
queue-requires-clause-made g c =
    grayed_within c.args.heap.now c.gray_cell.new.heap (g.F.Flight.bits c.args.flight.now) c.args.stack.now c.args.place
    (rw c.if-gray_cell.true at c.gray_cell.ensures.answers) c.gray_cell.ensures.delayed c.requires.present

pub queue-requires-clause-fresh : goal.queue-requires-clause-fresh
queue-requires-clause-fresh g c =
    grayed_fresh c.args.heap.now c.gray_cell.new.heap (g.F.Flight.bits c.args.flight.now) c.args.stack.now c.args.place
    (rw c.if-gray_cell.true at c.gray_cell.ensures.answers) c.gray_cell.ensures.delayed c.requires.marks.piles

pub returns-then-gray_cell : goal.returns-then-gray_cell
returns-then-gray_cell g c =
    grayed_pending c.args.heap.now c.gray_cell.new.heap (g.F.Flight.bits c.args.flight.now) c.args.stack.now
    c.args.place (rw c.if-gray_cell.true at c.gray_cell.ensures.answers) c.gray_cell.ensures.delayed c.queue.new.heap
    c.queue.new.stack c.queue.ensures.more c.queue.ensures.rest

pub returns-else-gray_cell : goal.returns-else-gray_cell
returns-else-gray_cell g c =
    let was = rw c.if-gray_cell.false at c.gray_cell.ensures.answers in
    inl (was.0, was.1, pending_same c.args.heap.now c.gray_cell.new.heap c.args.stack.now c.gray_cell.ensures.delayed)
