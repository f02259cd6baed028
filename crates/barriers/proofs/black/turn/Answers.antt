use Rattle.std.proofs.Common.{inl, refl}
use Rattle.barriers.proofs.Queueing.{covers_same, pending_same, turned_fresh, turned_pending}
use Rattle.barriers.proofs.black.turn.Goals as goal

pub queue_by_zone-requires-clause-fresh : goal.queue_by_zone-requires-clause-fresh
queue_by_zone-requires-clause-fresh g c =
    turned_fresh c.args.heap.now c.blacken.new.heap (g.F.Flight.bits c.args.flight.now)
    (g.F.Flight.bits c.blacken.new.flight) c.args.stack.now c.args.place
    (rw c.if-blacken.true at c.blacken.ensures.black) c.blacken.ensures.delayed c.requires.marks.piles
    _ refl

pub returns-then-blacken-clause-turns : goal.returns-then-blacken-clause-turns
returns-then-blacken-clause-turns g c =
    turned_pending c.args.heap.now c.blacken.new.heap (g.F.Flight.bits c.args.flight.now)
    (g.F.Flight.bits c.blacken.new.flight) c.args.stack.now c.args.place
    (rw c.if-blacken.true at c.blacken.ensures.black) c.blacken.ensures.delayed c.queue_by_zone.new.heap
    c.queue_by_zone.new.stack _ refl c.queue_by_zone.ensures.more c.queue_by_zone.ensures.rest

pub returns-then-blacken-clause-covers : goal.returns-then-blacken-clause-covers
returns-then-blacken-clause-covers g c =
    covers_same c.blacken.new.heap c.queue_by_zone.new.heap (g.F.Flight.bits c.blacken.new.flight)
    c.queue_by_zone.ensures.rest c.blacken.ensures.covers

pub returns-else-blacken-clause-turns : goal.returns-else-blacken-clause-turns
returns-else-blacken-clause-turns g c =
    let was = rw c.if-blacken.false at c.blacken.ensures.black in
    inl (was.0, was.1, pending_same c.args.heap.now c.blacken.new.heap c.args.stack.now c.blacken.ensures.delayed)
