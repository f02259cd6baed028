use Rattle.std.proofs.Common.{◌∙◌, ap, arith, sym, w64}
use Rattle.std.specs.Int.{trailing_zeros}
use Rattle.arena_table.specs.Delayed.{CellSetState}
use Rattle.arena_table.proofs.WordBits.{within-from_some}
use Rattle.arena_table.proofs.CellSets.{AreCells-taken, lowest-cell, made-place, none-taken, places-none, some-taken}
use Rattle.arena_table.proofs.delayed.CellSet.take_lowest.Goals as goal

pub index-mask-requires : goal.index-mask-requires
index-mask-requires c =
    let some = (c.self.invariant.marked c.in_ok-arena.arena).0 c.in_ok-arena.ensures.some in
    let within = within-from_some c.self.inside.masks.items c.in_ok-arena.arena some in
    omega (arith, c.self.inside.masks.ok.0)

pub index_mut-requires : goal.index_mut-requires
index_mut-requires c =
    let some = (c.self.invariant.marked c.in_ok-arena.arena).0 c.in_ok-arena.ensures.some in
    let within = within-from_some c.self.inside.masks.items c.in_ok-arena.arena some in
    omega (arith, c.self.inside.masks.ok.0)

pub overflow_sub-rest : goal.overflow_sub-rest
overflow_sub-rest c =
    let low = lowest-cell c.self.inside.masks.items c.self.inside.arenas c.self.inside.count c.in_ok-arena.arena
    c.index-mask.result.now c.self.invariant c.in_ok-arena.ensures.some c.in_ok-arena.ensures.lowest
    c.index-mask.ensures (omega arith) in
    omega (arith, low.some)

pub keep_if_some-requires : goal.keep_if_some-requires
keep_if_some-requires c =
    let some = (c.self.invariant.marked c.in_ok-arena.arena).0 c.in_ok-arena.ensures.some in
    let within = within-from_some c.self.inside.masks.items c.in_ok-arena.arena some in
    omega (arith, c.self.invariant.room)

pub overflow_sub-self : goal.overflow_sub-self
overflow_sub-self c =
    let low = lowest-cell c.self.inside.masks.items c.self.inside.arenas c.self.inside.count c.in_ok-arena.arena
    c.index-mask.result.now c.self.invariant c.in_ok-arena.ensures.some c.in_ok-arena.ensures.lowest
    c.index-mask.ensures (omega arith) in
    omega (arith, low.counted)

pub invariant_of-self : goal.invariant_of-self
invariant_of-self c =
    let low = lowest-cell c.self.inside.masks.items c.self.inside.arenas c.self.inside.count c.in_ok-arena.arena
    c.index-mask.result.now c.self.invariant c.in_ok-arena.ensures.some c.in_ok-arena.ensures.lowest
    c.index-mask.ensures (omega arith) in
    AreCells-taken c.self.inside.masks.items c.self.inside.arenas c.keep_if_some.new.arenas c.self.inside.count
    c.in_ok-arena.arena c.index-mask.result.now c.self.invariant c.in_ok-arena.ensures.some low
    c.keep_if_some.ensures.room c.keep_if_some.ensures.emptied c.keep_if_some.ensures.left

pub returns-in_err-arena-clause-none : goal.returns-in_err-arena-clause-none
returns-in_err-arena-clause-none c =
    let none = places-none c.self.inside.masks.items c.self.inside.arenas c.self.inside.count c.self.invariant
    c.in_err-arena.ensures.none in
    rw (c.from_residual.ensures, ← c.self.view_is) (none, none)

pub returns-clause-some : goal.returns-clause-some
returns-clause-some c =
    let t = trailing_zeros w64 c.index-mask.result.now in
    let low = lowest-cell c.self.inside.masks.items c.self.inside.arenas c.self.inside.count c.in_ok-arena.arena
    c.index-mask.result.now c.self.invariant c.in_ok-arena.ensures.some c.in_ok-arena.ensures.lowest
    c.index-mask.ensures (omega arith) in
    some-taken c.new.result (c.in_ok-arena.arena, t) c.args.self.now.places _
    (made-place c.new.result t (c.in_ok-arena.arena, t) low.below c.new.ensures)
    (sym (ap (λ (s : CellSetState). s.places) c.self.view_is) ∙ low.places)

pub returns-clause-none : goal.returns-clause-none
returns-clause-none c =
    let t = trailing_zeros w64 c.index-mask.result.now in
    let low = lowest-cell c.self.inside.masks.items c.self.inside.arenas c.self.inside.count c.in_ok-arena.arena
    c.index-mask.result.now c.self.invariant c.in_ok-arena.ensures.some c.in_ok-arena.ensures.lowest
    c.index-mask.ensures (omega arith) in
    none-taken c.new.result (c.in_ok-arena.arena, t) _
    (made-place c.new.result t (c.in_ok-arena.arena, t) low.below c.new.ensures)
