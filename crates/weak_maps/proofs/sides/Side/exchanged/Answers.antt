use Rattle.weak_maps.proofs.Siding.{IsSide-sound}
use Rattle.weak_maps.proofs.sides.Side.exchanged.Goals as goal

pub returns-clause-side : goal.returns-clause-side
returns-clause-side c =
    rw (← c.self.view_is)
    (IsSide-sound c.self.inside.heads c.self.inside.lists.items c.self.inside.seats.items c.self.inside.black
    c.self.inside.gray c.self.invariant)
