use Rattle.std.proofs.Common.{ap, inl, subst, sym}
use Rattle.heap_core.specs.Heap.{HeapState, without_delayed}
use Rattle.heap_core.specs.Shape.{Shape, IsPresent}
use Rattle.heap_core.proofs.Places.{present_within}
use Rattle.barriers.specs.Pending.{pending}
use Rattle.barriers.proofs.LeftOut.{not_pending, turned_left_out, within_left_out}
use Rattle.barriers.proofs.left_out.blacken.Goals as goal

pub mark_black-requires-clause-made : goal.mark_black-requires-clause-made
mark_black-requires-clause-made c = within_left_out c.args.heap.now _ _ c.requires.colours c.requires.present

pub mark_black-requires-clause-kept : goal.mark_black-requires-clause-kept
mark_black-requires-clause-kept c = c.requires.colours.none_out c.args.place.0

pub queue-requires-clause-made : goal.queue-requires-clause-made
queue-requires-clause-made c =
    let takes = rw c.if-mark_black.true at c.mark_black.ensures in
    present_within c.mark_black.new.self.shape c.args.place
    (subst (λ (s : Shape). IsPresent s c.args.place) (sym (ap (λ (z : HeapState). z.shape) takes.new_is))
    c.requires.present)

pub queue-requires-clause-fresh : goal.queue-requires-clause-fresh
queue-requires-clause-fresh c = not_pending c.args.heap.now c.mark_black.new.self c.args.stack.now c.args.place
    c.requires.colours c.requires.present c.requires.counts (rw c.if-mark_black.true at c.mark_black.ensures)

pub returns-then-mark_black : goal.returns-then-mark_black
returns-then-mark_black c = turned_left_out c.args.heap.now c.mark_black.new.self c.args.stack.now c.args.place
    c.requires.colours c.requires.present c.requires.counts (rw c.if-mark_black.true at c.mark_black.ensures)
    c.queue.new.heap c.queue.new.stack c.queue.ensures.more c.queue.ensures.rest

pub returns-else-mark_black : goal.returns-else-mark_black
returns-else-mark_black c =
    let was = rw c.if-mark_black.false at c.mark_black.ensures in inl (
      was.0,
      ap (λ (z : HeapState). without_delayed z) was.1,
      ap (λ (z : HeapState). pending z c.args.stack.now) was.1,
    )
