use Rattle.std.proofs.Common.{ap, ◌∙◌, arith, length}
use Rattle.std.specs.Vec.{vec_len}
use Rattle.weak_maps.proofs.Siding.{IsSide-sound, IsSound-less, take_whole}
use Rattle.weak_maps.proofs.Undoing.{IsAtEnd-added, IsUndone-taken}
use Rattle.weak_maps.proofs.sides.Side.undo_add.Goals as goal

pub undo_add-requires-clause-end : goal.undo_add-requires-clause-end
undo_add-requires-clause-end c =
    let added = rw (← c.self.view_is) at c.requires.added in
    rw c.deref_mut.ensures.value
    (IsAtEnd-added c.requires.before c.requires.place c.self.inside.heads c.self.inside.lists.items
    c.self.inside.seats.items c.self.invariant.seated added)

pub invariant_of-self : goal.invariant_of-self
invariant_of-self c =
    let whole = take_whole (vec_len c.self.inside.lists) c.undo_add.new.lists c.self.inside.lists.items
    (c.undo_add.auto.lists ∙ ap length c.deref_mut.ensures.value) (omega arith) in
    rw whole (IsSound-less c.self.inside.heads c.self.inside.lists.items c.undo_add.new.lists
    c.self.inside.seats.items c.undo_add.new.seats.items c.self.inside.black c.self.inside.gray c.self.invariant
    c.undo_add.ensures.seated (rw c.deref_mut.ensures.value at c.undo_add.ensures.looks))

pub returns-clause-undone : goal.returns-clause-undone
returns-clause-undone c = λ before place added.
    let whole = take_whole (vec_len c.self.inside.lists) c.undo_add.new.lists c.self.inside.lists.items
    (c.undo_add.auto.lists ∙ ap length c.deref_mut.ensures.value) (omega arith) in
    rw (whole, ← c.self.view_is)
    (IsUndone-taken before place c.self.inside.heads c.self.inside.lists.items c.self.inside.seats.items
    c.self.invariant.seated (rw (← c.self.view_is) at added) c.undo_add.new.lists c.undo_add.new.seats.items
    (rw c.deref_mut.ensures.value at c.undo_add.ensures.lists) c.undo_add.ensures.owners
    (rw c.deref_mut.ensures.value at c.undo_add.ensures.left))

pub returns-clause-side : goal.returns-clause-side
returns-clause-side c =
    let whole = take_whole (vec_len c.self.inside.lists) c.undo_add.new.lists c.self.inside.lists.items
    (c.undo_add.auto.lists ∙ ap length c.deref_mut.ensures.value) (omega arith) in
    rw whole (IsSide-sound c.self.inside.heads c.undo_add.new.lists c.undo_add.new.seats.items
    c.self.inside.black c.self.inside.gray
    (IsSound-less c.self.inside.heads c.self.inside.lists.items c.undo_add.new.lists
    c.self.inside.seats.items c.undo_add.new.seats.items c.self.inside.black c.self.inside.gray c.self.invariant
    c.undo_add.ensures.seated (rw c.deref_mut.ensures.value at c.undo_add.ensures.looks)))
