use Rattle.std.proofs.Common.{arith}
use Rattle.compact.proofs.Counted.{after-end, after-here, one-next}
use Rattle.compact.proofs.arenas.arena_after.Goals as goal

pub loop-arena-init : goal.loop-arena-init
loop-arena-init c = record { counted = omega arith }

pub overflow_add-from : goal.overflow_add-from
overflow_add-from c = (let few = c.in-Some.ensures.some.few in omega (arith, few))

pub loop-arena-preserved : goal.loop-arena-preserved
loop-arena-preserved c =
    let next = c.in-Some.ensures.some in
    let one = one-next c.args.heap.now.shape.arenas c.args.zone c.loop-arena.from c.in-Some.arena next in
    let counted = c.loop-arena.invariant.counted in
    let more = c.if-left-eq0.false in
    record { counted = omega (arith, one, counted, more) }

pub loop-arena-smaller : goal.loop-arena-smaller
loop-arena-smaller c =
    (let from = c.in-Some.ensures.some.from_is in
    let few = c.in-Some.ensures.some.few in omega (arith, from, few))

pub returns-then-left-eq0 : goal.returns-then-left-eq0
returns-then-left-eq0 c = after-here c.args.heap.now.shape.arenas c.args.zone c.loop-arena.from c.in-Some.arena
    c.in-Some.ensures.some c.args.count c.loop-arena.left c.if-left-eq0.true c.loop-arena.invariant.counted

pub returns : goal.returns
returns c = after-end c.args.heap.now.shape.arenas c.args.zone c.loop-arena.from c.in_default.ensures.none
    c.args.count c.loop-arena.left c.arenas.result c.loop-arena.invariant.counted c.arenas.ensures
