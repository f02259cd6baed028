use Rattle.std.proofs.Common.{◌-◌, sym, ◌∙◌, ap, length, slice_get, refl}
use Rattle.weak_maps.proofs.Queueing.{read_as}
use Rattle.weak_maps.proofs.Siding.{IsSide-sound, listed-is}
use Rattle.weak_maps.proofs.sides.Side.last.Goals as goal

pub returns-in_err-list-clause-side : goal.returns-in_err-list-clause-side
returns-in_err-list-clause-side c =
    rw (← c.self.view_is)
    (IsSide-sound c.self.inside.heads c.self.inside.lists.items c.self.inside.seats.items c.self.inside.black
    c.self.inside.gray c.self.invariant)

pub returns-clause-side : goal.returns-clause-side
returns-clause-side c =
    rw (← c.self.view_is)
    (IsSide-sound c.self.inside.heads c.self.inside.lists.items c.self.inside.seats.items c.self.inside.black
    c.self.inside.gray c.self.invariant)

pub returns-clause-entry : goal.returns-clause-entry
returns-clause-entry c =
    let less = c.self.invariant.heads_are.within c.args.place c.in_ok-list.list (sym c.in_ok-list.ensures) in
    let here = read_as c.self.inside.lists.items c.in_ok-list.list c.index.result.now c.index.result.now less
    c.index.ensures refl in
    rw (← c.self.view_is)
    (c.last.ensures
    ∙ ap (λ es. slice_get es (length es - 1))
    (sym (listed-is c.self.inside.heads c.self.inside.lists.items c.self.inside.seats.items c.args.place
    c.in_ok-list.list c.index.result.now (sym c.in_ok-list.ensures) here)))
