use Rattle.std.proofs.Common.{arith}
use Rattle.arena_table.proofs.CellSets.{AreCells-covered, ArePadded-refl}
use Rattle.arena_table.proofs.delayed.CellSet.cover.Goals as goal

pub invariant_of-self : goal.invariant_of-self
invariant_of-self c =
    let masks = c.self.inside.masks.items in
    AreCells-covered masks c.self.inside.arenas masks c.cover.new.self c.self.inside.count c.self.invariant
    (ArePadded-refl masks) c.self.invariant.few (omega (arith, c.self.invariant.room, c.cover.ensures.kept))
    c.cover.ensures.same

pub invariant_of-self-2 : goal.invariant_of-self-2
invariant_of-self-2 c =
    AreCells-covered c.self.inside.masks.items c.self.inside.arenas c.cover_masks.new.masks.items c.cover.new.self
    c.self.inside.count c.self.invariant c.cover_masks.ensures.padded
    (omega (arith, c.self.invariant.few, c.cover_masks.ensures.most, c.requires))
    (omega (arith, c.self.invariant.room, c.cover.ensures.kept, c.cover_masks.ensures.most, c.in_ok-cover.ensures.room))
    c.cover.ensures.same

pub returns-clause-kept : goal.returns-clause-kept
returns-clause-kept c = rw (← c.self.view_is) c.cover_masks.ensures.padded.kept

pub returns-clause-same : goal.returns-clause-same
returns-clause-same c = rw (← c.self.view_is) c.cover_masks.ensures.padded.places
