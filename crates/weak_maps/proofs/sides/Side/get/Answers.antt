use Rattle.std.proofs.Common.{sym, ◌∙◌, arith, refl}
use Rattle.weak_maps.proofs.Queueing.{read_as}
use Rattle.weak_maps.proofs.Seating.{entry_in-here}
use Rattle.weak_maps.proofs.Siding.{IsSide-sound, listed-found}
use Rattle.weak_maps.proofs.sides.Side.get.Goals as goal

pub returns-in_err-list-clause-side : goal.returns-in_err-list-clause-side
returns-in_err-list-clause-side c =
    rw (← c.self.view_is)
    (IsSide-sound c.self.inside.heads c.self.inside.lists.items c.self.inside.seats.items c.self.inside.black
    c.self.inside.gray c.self.invariant)

pub returns-clause-side : goal.returns-clause-side
returns-clause-side c =
    rw (← c.self.view_is)
    (IsSide-sound c.self.inside.heads c.self.inside.lists.items c.self.inside.seats.items c.self.inside.black
    c.self.inside.gray c.self.invariant)

pub index-requires : goal.index-requires
index-requires c =
    let less = c.self.invariant.heads_are.within c.args.place c.in_ok-list.list (sym c.in_ok-list.ensures) in
    omega (arith, less)

pub returns-clause-entry : goal.returns-clause-entry
returns-clause-entry c =
    let less = c.self.invariant.heads_are.within c.args.place c.in_ok-list.list (sym c.in_ok-list.ensures) in
    let here = read_as c.self.inside.lists.items c.in_ok-list.list c.index.result.now c.index.result.now less
    c.index.ensures refl in
    rw (← c.self.view_is)
    (c.get-2.ensures.entry
    ∙ sym (listed-found c.self.inside.heads c.self.inside.lists.items c.self.inside.seats.items c.args.place
    c.in_ok-list.list c.args.index (sym c.in_ok-list.ensures)
    ∙ entry_in-here c.self.inside.lists.items c.in_ok-list.list c.args.index c.index.result.now here))
