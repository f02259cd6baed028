use Rattle.std.proofs.Common.{◌≡◌, ◌+◌, ◌≤◌, ap, arith, length}
use Rattle.weak_maps.specs.Queues.{QueueState}
use Rattle.weak_maps.proofs.Siding.{IsSide-sound, IsSound-new, IsSound-roomier, IsAdded-new}
use Rattle.weak_maps.proofs.sides.Side.add_list.Goals as goal

waits : (q r : QueueState) → q ≡ record { waiting = r.waiting; room = r.room + 1 } → q.waiting ≡ r.waiting
waits q r h = ap (λ (s : QueueState). s.waiting) h

roomier : (q r : QueueState) → q ≡ record { waiting = r.waiting; room = r.room + 1 } → r.room ≤ q.room
roomier q r h = (let room = ap (λ (s : QueueState). s.room) h in omega (arith, room))

pub invariant_of-self-in_err-grow-2 : goal.invariant_of-self-in_err-grow-2
invariant_of-self-in_err-grow-2 c =
    rw (c.reserve.ensures.items, c.reserve-2.ensures.items)
    (IsSound-roomier c.self.inside.heads c.self.inside.lists.items c.self.inside.seats.items
    c.self.inside.black c.self.inside.gray c.grow.new.self c.grow-2.new.self
    (waits c.grow.new.self c.self.inside.black c.in_ok-grow.ensures.ok)
    (ap (λ (s : QueueState). s.waiting) c.in_err-grow-2.ensures.err)
    (roomier c.grow.new.self c.self.inside.black c.in_ok-grow.ensures.ok)
    (let room = ap (λ (s : QueueState). s.room) c.in_err-grow-2.ensures.err in omega (arith, room))
    c.self.invariant)

pub invariant_of-self-in_err-push : goal.invariant_of-self-in_err-push
invariant_of-self-in_err-push c =
    rw (c.reserve.ensures.items, c.reserve-2.ensures.items)
    (IsSound-roomier c.self.inside.heads c.self.inside.lists.items c.self.inside.seats.items
    c.self.inside.black c.self.inside.gray c.grow.new.self c.grow-2.new.self
    (waits c.grow.new.self c.self.inside.black c.in_ok-grow.ensures.ok)
    (waits c.grow-2.new.self c.self.inside.gray c.in_ok-grow-2.ensures.ok)
    (roomier c.grow.new.self c.self.inside.black c.in_ok-grow.ensures.ok)
    (roomier c.grow-2.new.self c.self.inside.gray c.in_ok-grow-2.ensures.ok) c.self.invariant)

pub invariant_of-self-in_err-insert : goal.invariant_of-self-in_err-insert
invariant_of-self-in_err-insert c =
    rw (c.in_err-insert.ensures.err, c.reserve.ensures.items, c.reserve-2.ensures.items)
    (IsSound-roomier c.self.inside.heads c.self.inside.lists.items c.self.inside.seats.items
    c.self.inside.black c.self.inside.gray c.grow.new.self c.grow-2.new.self
    (waits c.grow.new.self c.self.inside.black c.in_ok-grow.ensures.ok)
    (waits c.grow-2.new.self c.self.inside.gray c.in_ok-grow-2.ensures.ok)
    (roomier c.grow.new.self c.self.inside.black c.in_ok-grow.ensures.ok)
    (roomier c.grow-2.new.self c.self.inside.gray c.in_ok-grow-2.ensures.ok) c.self.invariant)

pub invariant_of-self-2 : goal.invariant_of-self-2
invariant_of-self-2 c =
    let j_is : c.len-3.result ≡ length c.self.inside.lists.items =
    (let same = ap length c.reserve.ensures.items in omega (arith, same)) in
    IsSound-new c.self.inside.heads c.insert.new.self c.self.inside.lists.items
    c.add_first.new.lists.items c.self.inside.seats.items c.add_first.new.seats.items c.self.inside.black
    c.self.inside.gray c.grow.new.self c.grow-2.new.self c.args.place c.len-3.result c.self.invariant
    c.add_first.ensures.seated (rw c.reserve.ensures.items at c.add_first.ensures.looks)
    (rw (← c.self.view_is) at c.requires.new) j_is c.in_ok-insert.ensures.ok c.in_ok-grow.ensures.ok
    c.in_ok-grow-2.ensures.ok

pub returns-clause-added : goal.returns-clause-added
returns-clause-added c =
    let j_is : c.len-3.result ≡ length c.self.inside.lists.items =
    (let same = ap length c.reserve.ensures.items in omega (arith, same)) in
    rw (← c.self.view_is)
    (IsAdded-new c.self.inside.heads c.insert.new.self c.self.inside.lists.items
    c.add_first.new.lists.items c.self.inside.seats.items c.add_first.new.seats.items c.args.place c.len-3.result
    (rw (← c.self.view_is) at c.requires.new) j_is c.in_ok-insert.ensures.ok
    (rw (c.reserve.ensures.items, c.reserve-2.ensures.items) at c.add_first.ensures.owners)
    (rw (c.reserve.ensures.items, c.reserve-2.ensures.items) at c.add_first.ensures.left)
    (rw (c.reserve.ensures.items, c.reserve-2.ensures.items) at c.add_first.ensures.lists))

pub returns-clause-side : goal.returns-clause-side
returns-clause-side c =
    let j_is : c.len-3.result ≡ length c.self.inside.lists.items =
    (let same = ap length c.reserve.ensures.items in omega (arith, same)) in
    IsSide-sound c.insert.new.self c.add_first.new.lists.items c.add_first.new.seats.items c.grow.new.self
    c.grow-2.new.self (IsSound-new c.self.inside.heads c.insert.new.self c.self.inside.lists.items
    c.add_first.new.lists.items c.self.inside.seats.items c.add_first.new.seats.items c.self.inside.black
    c.self.inside.gray c.grow.new.self c.grow-2.new.self c.args.place c.len-3.result c.self.invariant
    c.add_first.ensures.seated (rw c.reserve.ensures.items at c.add_first.ensures.looks)
    (rw (← c.self.view_is) at c.requires.new) j_is c.in_ok-insert.ensures.ok c.in_ok-grow.ensures.ok
    c.in_ok-grow-2.ensures.ok)
