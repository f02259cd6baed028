use Rattle.std.proofs.Common.{ap, ◌∙◌, arith, length}
use Rattle.std.specs.Vec.{vec_len}
use Rattle.weak_maps.proofs.Siding.{IsSide-sound, IsSound-less, take_whole}
use Rattle.weak_maps.proofs.sides.Side.take.Goals as goal

pub invariant_of-self : goal.invariant_of-self
invariant_of-self c =
    let whole = take_whole (vec_len c.self.inside.lists) c.take_entry.new.lists c.self.inside.lists.items
    (c.take_entry.auto.lists ∙ ap length c.deref_mut.ensures.value) (omega arith) in
    rw whole (IsSound-less c.self.inside.heads c.self.inside.lists.items c.take_entry.new.lists
    c.self.inside.seats.items c.take_entry.new.seats.items c.self.inside.black c.self.inside.gray c.self.invariant
    c.take_entry.ensures.seated (rw c.deref_mut.ensures.value at c.take_entry.ensures.looks))

pub returns-clause-left : goal.returns-clause-left
returns-clause-left c =
    let whole = take_whole (vec_len c.self.inside.lists) c.take_entry.new.lists c.self.inside.lists.items
    (c.take_entry.auto.lists ∙ ap length c.deref_mut.ensures.value) (omega arith) in
    rw (whole, ← c.self.view_is) (rw c.deref_mut.ensures.value at c.take_entry.ensures.left)

pub returns-clause-side : goal.returns-clause-side
returns-clause-side c =
    let whole = take_whole (vec_len c.self.inside.lists) c.take_entry.new.lists c.self.inside.lists.items
    (c.take_entry.auto.lists ∙ ap length c.deref_mut.ensures.value) (omega arith) in
    rw whole (IsSide-sound c.self.inside.heads c.take_entry.new.lists c.take_entry.new.seats.items
    c.self.inside.black c.self.inside.gray
    (IsSound-less c.self.inside.heads c.self.inside.lists.items c.take_entry.new.lists
    c.self.inside.seats.items c.take_entry.new.seats.items c.self.inside.black c.self.inside.gray c.self.invariant
    c.take_entry.ensures.seated (rw c.deref_mut.ensures.value at c.take_entry.ensures.looks)))
