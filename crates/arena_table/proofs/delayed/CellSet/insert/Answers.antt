use Rattle.std.proofs.Common.{Contains, ap, arith, subst, sym}
use Rattle.arena_table.specs.Delayed.{CellSetState}
use Rattle.arena_table.proofs.CellSets.{count-bound, inserted}
use Rattle.arena_table.proofs.delayed.CellSet.insert.Goals as goal

pub index_mut-requires : goal.index_mut-requires
index_mut-requires c =
    let room = ap (λ (s : CellSetState). s.room) c.self.view_is in
    omega (arith, room, c.requires.room, c.arena-arena.ensures, c.self.inside.masks.ok.0)

pub insert-requires : goal.insert-requires
insert-requires c =
    let room = ap (λ (s : CellSetState). s.room) c.self.view_is in
    omega (arith, room, c.requires.room, c.arena-arena.ensures, c.self.invariant.room)

pub overflow_add-self : goal.overflow_add-self
overflow_add-self c =
    let most = count-bound c.self.inside.masks.items c.self.inside.arenas c.self.inside.count c.self.invariant in
    omega arith

pub invariant_of-self : goal.invariant_of-self
invariant_of-self c =
    let room = ap (λ (s : CellSetState). s.room) c.self.view_is in
    let more = inserted c.self.inside.masks.items c.self.inside.arenas c.insert.new.self c.self.inside.count
    c.args.place
    c.arena-arena.result c.slot.result c.index_mut.result.now c.self.invariant c.arena-arena.ensures
    c.slot.ensures.value (omega (arith, room, c.requires.room)) c.slot.ensures.below c.index_mut.ensures.value
    (subst (λ (s : CellSetState). Contains s.places c.args.place → ⊥) (sym c.self.view_is) c.requires.fresh)
    c.insert.ensures.room c.insert.ensures.bits in
    more.cells

pub returns-clause-more : goal.returns-clause-more
returns-clause-more c =
    let room = ap (λ (s : CellSetState). s.room) c.self.view_is in
    let more = inserted c.self.inside.masks.items c.self.inside.arenas c.insert.new.self c.self.inside.count
    c.args.place
    c.arena-arena.result c.slot.result c.index_mut.result.now c.self.invariant c.arena-arena.ensures
    c.slot.ensures.value (omega (arith, room, c.requires.room)) c.slot.ensures.below c.index_mut.ensures.value
    (subst (λ (s : CellSetState). Contains s.places c.args.place → ⊥) (sym c.self.view_is) c.requires.fresh)
    c.insert.ensures.room c.insert.ensures.bits in
    rw (← ap (λ (s : CellSetState). s.places) c.self.view_is) more.places
