use Rattle.std.proofs.Common.{sym, ap, ◌∙◌, arith, length}
use Rattle.std.specs.Vec.{vec_len}
use Rattle.weak_maps.proofs.Siding.{adds-sound, adds-side, adds-added, take_whole}
use Rattle.weak_maps.proofs.sides.Side.add.Goals as goal

pub add_entry-requires-clause-list : goal.add_entry-requires-clause-list
add_entry-requires-clause-list c =
    let found = sym c.in-Some.ensures in
    let less = c.self.invariant.heads_are.within c.args.place c.in-Some.list found in
    rw c.deref_mut.ensures.value less

pub invariant_of-self : goal.invariant_of-self
invariant_of-self c =
    let whole = take_whole (vec_len c.self.inside.lists) c.add_entry.new.lists c.self.inside.lists.items
    (c.add_entry.auto.lists ∙ ap length c.deref_mut.ensures.value) (omega arith) in
    rw whole (adds-sound c.add_entry.result c.self.inside.heads c.self.inside.lists.items c.add_entry.new.lists
    c.self.inside.seats.items c.add_entry.new.seats.items c.self.inside.black c.self.inside.gray c.self.invariant
    c.add_entry.ensures.seated (rw c.deref_mut.ensures.value at c.add_entry.ensures.looks)
    (rw c.deref_mut.ensures.value at c.add_entry.ensures.err))

pub returns-in-Some-clause-side : goal.returns-in-Some-clause-side
returns-in-Some-clause-side c =
    let whole = take_whole (vec_len c.self.inside.lists) c.add_entry.new.lists c.self.inside.lists.items
    (c.add_entry.auto.lists ∙ ap length c.deref_mut.ensures.value) (omega arith) in
    rw whole (adds-side c.add_entry.result c.self.inside.heads c.self.inside.lists.items c.add_entry.new.lists
    c.self.inside.seats.items c.add_entry.new.seats.items c.self.inside.black c.self.inside.gray c.self.invariant
    c.add_entry.ensures.seated (rw c.deref_mut.ensures.value at c.add_entry.ensures.looks)
    (rw c.deref_mut.ensures.value at c.add_entry.ensures.err))

pub returns-in-Some-clause-added : goal.returns-in-Some-clause-added
returns-in-Some-clause-added c =
    let found = sym c.in-Some.ensures in
    let whole = take_whole (vec_len c.self.inside.lists) c.add_entry.new.lists c.self.inside.lists.items
    (c.add_entry.auto.lists ∙ ap length c.deref_mut.ensures.value) (omega arith) in
    rw (whole, ← c.self.view_is)
    (adds-added c.add_entry.result c.self.inside.heads c.self.inside.lists.items c.add_entry.new.lists
    c.self.inside.seats.items c.add_entry.new.seats.items c.self.inside.black c.self.inside.gray c.self.invariant
    c.add_entry.ensures.seated (rw c.deref_mut.ensures.value at c.add_entry.ensures.looks)
    (rw c.deref_mut.ensures.value at c.add_entry.ensures.err) c.args.place c.in-Some.list found
    (rw c.deref_mut.ensures.value at c.add_entry.ensures.left) c.add_entry.ensures.owners
    (rw c.deref_mut.ensures.value at c.add_entry.ensures.lists))
