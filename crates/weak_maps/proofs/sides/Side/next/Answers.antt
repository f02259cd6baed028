use Rattle.std.proofs.Common.{ap, ◌∙◌, arith, length}
use Rattle.std.specs.Vec.{vec_len}
use Rattle.weak_maps.proofs.Siding.{IsSide-sound, take_whole}
use Rattle.weak_maps.proofs.Looking.{next-black, next-gray, next-some, next-none}
use Rattle.weak_maps.proofs.sides.Side.next.Goals as goal

pub invariant_of-self : goal.invariant_of-self
invariant_of-self c =
    let whole = take_whole (vec_len c.self.inside.lists) c.next_left.new.lists c.self.inside.lists.items
    (c.next_left.auto.lists ∙ ap length c.deref_mut.ensures.value) (omega arith) in
    rw whole (next-black c.self.inside.heads c.self.inside.lists.items c.self.inside.seats.items
    c.self.inside.black c.self.inside.gray c.self.invariant c.args.colour c.next_left.result c.next_left.new.lists
    (rw c.deref_mut.ensures.value at c.next_left.ensures.some)
    (rw c.deref_mut.ensures.value at c.next_left.ensures.none) c.next_left.new.queue c.in-Black.is
    c.next_left.ensures.queue)

pub returns-in-Black-clause-some : goal.returns-in-Black-clause-some
returns-in-Black-clause-some c =
    let whole = take_whole (vec_len c.self.inside.lists) c.next_left.new.lists c.self.inside.lists.items
    (c.next_left.auto.lists ∙ ap length c.deref_mut.ensures.value) (omega arith) in
    rw (whole, ← c.self.view_is)
    (next-some c.self.inside.heads c.self.inside.lists.items c.self.inside.seats.items c.self.inside.black
    c.self.inside.gray c.self.invariant c.args.colour c.next_left.result c.next_left.new.lists
    (rw c.deref_mut.ensures.value at c.next_left.ensures.some)
    (rw c.deref_mut.ensures.value at c.next_left.ensures.none))

pub returns-in-Black-clause-none : goal.returns-in-Black-clause-none
returns-in-Black-clause-none c =
    let whole = take_whole (vec_len c.self.inside.lists) c.next_left.new.lists c.self.inside.lists.items
    (c.next_left.auto.lists ∙ ap length c.deref_mut.ensures.value) (omega arith) in
    rw (whole, ← c.self.view_is)
    (next-none c.self.inside.heads c.self.inside.lists.items c.self.inside.seats.items c.self.inside.black
    c.self.inside.gray c.self.invariant c.args.colour c.next_left.result c.next_left.new.lists
    (rw c.deref_mut.ensures.value at c.next_left.ensures.some)
    (rw c.deref_mut.ensures.value at c.next_left.ensures.none))

pub returns-in-Black-clause-side : goal.returns-in-Black-clause-side
returns-in-Black-clause-side c =
    let whole = take_whole (vec_len c.self.inside.lists) c.next_left.new.lists c.self.inside.lists.items
    (c.next_left.auto.lists ∙ ap length c.deref_mut.ensures.value) (omega arith) in
    rw whole (IsSide-sound c.self.inside.heads c.next_left.new.lists c.self.inside.seats.items
    c.next_left.new.queue c.self.inside.gray
    (next-black c.self.inside.heads c.self.inside.lists.items c.self.inside.seats.items c.self.inside.black
    c.self.inside.gray c.self.invariant c.args.colour c.next_left.result c.next_left.new.lists
    (rw c.deref_mut.ensures.value at c.next_left.ensures.some)
    (rw c.deref_mut.ensures.value at c.next_left.ensures.none) c.next_left.new.queue c.in-Black.is
    c.next_left.ensures.queue))

pub invariant_of-self-in-Gray : goal.invariant_of-self-in-Gray
invariant_of-self-in-Gray c =
    let whole = take_whole (vec_len c.self.inside.lists) c.next_left-in-Gray.new.lists c.self.inside.lists.items
    (c.next_left-in-Gray.auto.lists ∙ ap length c.deref_mut-in-Gray.ensures.value) (omega arith) in
    rw whole (next-gray c.self.inside.heads c.self.inside.lists.items c.self.inside.seats.items
    c.self.inside.black c.self.inside.gray c.self.invariant c.args.colour c.next_left-in-Gray.result
    c.next_left-in-Gray.new.lists (rw c.deref_mut-in-Gray.ensures.value at c.next_left-in-Gray.ensures.some)
    (rw c.deref_mut-in-Gray.ensures.value at c.next_left-in-Gray.ensures.none) c.next_left-in-Gray.new.queue
    c.in-Gray.is c.next_left-in-Gray.ensures.queue)

pub returns-in-Gray-clause-some : goal.returns-in-Gray-clause-some
returns-in-Gray-clause-some c =
    let whole = take_whole (vec_len c.self.inside.lists) c.next_left-in-Gray.new.lists c.self.inside.lists.items
    (c.next_left-in-Gray.auto.lists ∙ ap length c.deref_mut-in-Gray.ensures.value) (omega arith) in
    rw (whole, ← c.self.view_is)
    (next-some c.self.inside.heads c.self.inside.lists.items c.self.inside.seats.items c.self.inside.black
    c.self.inside.gray c.self.invariant c.args.colour c.next_left-in-Gray.result c.next_left-in-Gray.new.lists
    (rw c.deref_mut-in-Gray.ensures.value at c.next_left-in-Gray.ensures.some)
    (rw c.deref_mut-in-Gray.ensures.value at c.next_left-in-Gray.ensures.none))

pub returns-in-Gray-clause-none : goal.returns-in-Gray-clause-none
returns-in-Gray-clause-none c =
    let whole = take_whole (vec_len c.self.inside.lists) c.next_left-in-Gray.new.lists c.self.inside.lists.items
    (c.next_left-in-Gray.auto.lists ∙ ap length c.deref_mut-in-Gray.ensures.value) (omega arith) in
    rw (whole, ← c.self.view_is)
    (next-none c.self.inside.heads c.self.inside.lists.items c.self.inside.seats.items c.self.inside.black
    c.self.inside.gray c.self.invariant c.args.colour c.next_left-in-Gray.result c.next_left-in-Gray.new.lists
    (rw c.deref_mut-in-Gray.ensures.value at c.next_left-in-Gray.ensures.some)
    (rw c.deref_mut-in-Gray.ensures.value at c.next_left-in-Gray.ensures.none))

pub returns-in-Gray-clause-side : goal.returns-in-Gray-clause-side
returns-in-Gray-clause-side c =
    let whole = take_whole (vec_len c.self.inside.lists) c.next_left-in-Gray.new.lists c.self.inside.lists.items
    (c.next_left-in-Gray.auto.lists ∙ ap length c.deref_mut-in-Gray.ensures.value) (omega arith) in
    rw whole (IsSide-sound c.self.inside.heads c.next_left-in-Gray.new.lists c.self.inside.seats.items
    c.self.inside.black c.next_left-in-Gray.new.queue
    (next-gray c.self.inside.heads c.self.inside.lists.items c.self.inside.seats.items c.self.inside.black
    c.self.inside.gray c.self.invariant c.args.colour c.next_left-in-Gray.result c.next_left-in-Gray.new.lists
    (rw c.deref_mut-in-Gray.ensures.value at c.next_left-in-Gray.ensures.some)
    (rw c.deref_mut-in-Gray.ensures.value at c.next_left-in-Gray.ensures.none) c.next_left-in-Gray.new.queue
    c.in-Gray.is c.next_left-in-Gray.ensures.queue))
