use Rattle.std.proofs.Common.{◌∙◌, ap, sym, subst, refl, length, arith}
use Rattle.compact.specs.Packed.{HasRoom}
use Rattle.compact.proofs.Moving.{counted-next, moves-done, next-mine, packed-next}
use Rattle.compact.proofs.packing.Packing.move_cells.Goals as goal

pub loop-arena-init : goal.loop-arena-init
loop-arena-init c = record {
  packed = c.requires.packed;
  counted = (let none = ap (λ (ms : _). length ms) c.requires.none in omega (arith, none));
  first = refl;
  above = omega arith;
}

pub move_cells_of-requires-clause-room : goal.move_cells_of-requires-clause-room
move_cells_of-requires-clause-room c = subst (λ n. HasRoom c.args.heap.now.shape.arenas c.args.zone n)
    (sym c.loop-arena.invariant.first) c.requires.room

pub move_cells_of-requires-clause-mine : goal.move_cells_of-requires-clause-mine
move_cells_of-requires-clause-mine c = next-mine c.args.heap.now.shape.arenas c.args.zone c.loop-arena.from
    c.in-Some.arena c.in-Some.ensures.some

pub move_cells_of-requires-clause-from : goal.move_cells_of-requires-clause-from
move_cells_of-requires-clause-from c =
    (let from = c.in-Some.ensures.some.from_is in
    let above = c.loop-arena.invariant.above in
    let first = c.loop-arena.invariant.first in omega (arith, from, above, first))

pub move_cells_of-requires-clause-packed : goal.move_cells_of-requires-clause-packed
move_cells_of-requires-clause-packed c = packed-next c.args.heap.now.shape c.args.zone c.loop-arena.from
    c.in-Some.arena c.loop-arena.self c.in-Some.ensures.some c.loop-arena.invariant.packed

pub move_cells_of-requires-clause-counted : goal.move_cells_of-requires-clause-counted
move_cells_of-requires-clause-counted c = counted-next c.args.heap.now.shape c.args.zone c.loop-arena.from
    c.in-Some.arena c.loop-arena.self c.in-Some.ensures.some c.loop-arena.invariant.counted

pub overflow_add-from : goal.overflow_add-from
overflow_add-from c = (let few = c.in-Some.ensures.some.few in omega (arith, few))

pub loop-arena-smaller : goal.loop-arena-smaller
loop-arena-smaller c =
    (let from = c.in-Some.ensures.some.from_is in
    let few = c.in-Some.ensures.some.few in omega (arith, from, few))

pub loop-arena-preserved : goal.loop-arena-preserved
loop-arena-preserved c = record {
  packed = c.in_ok-move_cells_of.ensures.packed;
  counted = c.in_ok-move_cells_of.ensures.counted;
  first = c.move_cells_of.ensures.first ∙ c.loop-arena.invariant.first;
  above = (let from = c.in-Some.ensures.some.from_is in
      let above = c.loop-arena.invariant.above in omega (arith, from, above));
}

pub returns-clause-moves : goal.returns-clause-moves
returns-clause-moves c = moves-done c.args.heap.now.shape c.args.zone c.loop-arena.from c.loop-arena.self
    c.in_default.ensures.none c.loop-arena.invariant.packed

pub returns-clause-lowest : goal.returns-clause-lowest
returns-clause-lowest c = c.loop-arena.invariant.packed.lowest

pub returns-in_err-move_cells_of-clause-first : goal.returns-in_err-move_cells_of-clause-first
returns-in_err-move_cells_of-clause-first c = c.move_cells_of.ensures.first ∙ c.loop-arena.invariant.first
