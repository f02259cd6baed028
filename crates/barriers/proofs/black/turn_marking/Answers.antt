use Rattle.std.proofs.Common.{◌≡◌, ◌∙◌, true, inl, sym, ap, if◌then◌else◌}
use Rattle.mark_stack.specs.declared.stack.Pile.TheVariants as pile
use Rattle.heap_core.specs.Shape.{Shape, is_marking}
use Rattle.barriers.proofs.Queueing.{covers_same, pending_same, turned_fresh, turned_pending, turned_shape}
use Rattle.barriers.proofs.black.turn_marking.Goals as goal

pub queue-requires-clause-fresh : goal.queue-requires-clause-fresh
queue-requires-clause-fresh g c =
    let m = c.blacken_in_heap.new.heap in
    let flown = g.F.Flight.bits c.args.flight.now in
    let turned = rw c.if-blacken_in_heap.true at c.blacken_in_heap.ensures.black in
    let delayed = c.blacken_in_heap.ensures.delayed in
    let on : is_marking m.shape c.args.place ≡ true = ap (λ (s : Shape). is_marking s c.args.place)
    (turned_shape c.args.heap.now m flown flown c.args.stack.now c.args.place turned delayed) ∙ c.requires.marking in
    turned_fresh c.args.heap.now m flown flown c.args.stack.now c.args.place turned delayed c.requires.marks.piles
    pile.Black (sym (ap (λ b. if b then pile.Black else pile.Wake) on))

pub returns-then-blacken_in_heap-clause-turns : goal.returns-then-blacken_in_heap-clause-turns
returns-then-blacken_in_heap-clause-turns g c =
    let m = c.blacken_in_heap.new.heap in
    let flown = g.F.Flight.bits c.args.flight.now in
    let turned = rw c.if-blacken_in_heap.true at c.blacken_in_heap.ensures.black in
    let delayed = c.blacken_in_heap.ensures.delayed in
    let on : is_marking m.shape c.args.place ≡ true = ap (λ (s : Shape). is_marking s c.args.place)
    (turned_shape c.args.heap.now m flown flown c.args.stack.now c.args.place turned delayed) ∙ c.requires.marking in
    turned_pending c.args.heap.now m flown flown c.args.stack.now c.args.place turned delayed c.queue.new.heap
    c.queue.new.stack pile.Black (sym (ap (λ b. if b then pile.Black else pile.Wake) on)) c.queue.ensures.more
    c.queue.ensures.rest

pub returns-then-blacken_in_heap-clause-covers : goal.returns-then-blacken_in_heap-clause-covers
returns-then-blacken_in_heap-clause-covers g c =
    covers_same c.blacken_in_heap.new.heap c.queue.new.heap (g.F.Flight.bits c.args.flight.now) c.queue.ensures.rest
    c.blacken_in_heap.ensures.covers

pub returns-else-blacken_in_heap-clause-turns : goal.returns-else-blacken_in_heap-clause-turns
returns-else-blacken_in_heap-clause-turns g c =
    let was = rw c.if-blacken_in_heap.false at c.blacken_in_heap.ensures.black in
    inl (
      was.0,
      was.1,
      pending_same c.args.heap.now c.blacken_in_heap.new.heap c.args.stack.now c.blacken_in_heap.ensures.delayed,
    )
