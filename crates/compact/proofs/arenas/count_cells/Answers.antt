use Rattle.std.proofs.Common.{◌∙◌, refl, arith}
use Rattle.std.proofs.lemmas.Nat.{ones-le}
use Rattle.compact.proofs.Counted.{held-all, held-next, within}
use Rattle.compact.proofs.arenas.count_cells.Goals as goal

pub loop-arena-init : goal.loop-arena-init
loop-arena-init c = record { counted = refl; most = omega arith }

pub alloc_word-requires : goal.alloc_word-requires
alloc_word-requires c = within c.args.heap.now.shape.arenas c.args.zone c.loop-arena.from c.in-Some.arena
    c.in-Some.ensures.some

pub overflow_add-count : goal.overflow_add-count
overflow_add-count c =
    let most = c.loop-arena.invariant.most in
    let from = c.in-Some.ensures.some.from_is in
    let few = c.in-Some.ensures.some.few in
    let bits = ones-le 64 c.alloc_word.result (omega arith) in
    let same = c.from-count.ensures in
    omega (arith, most, from, few, bits, same)

pub overflow_add-from : goal.overflow_add-from
overflow_add-from c = (let few = c.in-Some.ensures.some.few in omega (arith, few))

pub loop-arena-preserved : goal.loop-arena-preserved
loop-arena-preserved c =
    let next = c.in-Some.ensures.some in
    let held = held-next c.args.heap.now.shape.arenas c.args.zone c.loop-arena.from c.in-Some.arena next
    c.alloc_word.result c.alloc_word.ensures in
    let counted = c.loop-arena.invariant.counted in
    let most = c.loop-arena.invariant.most in
    let from = next.from_is in
    let bits = ones-le 64 c.alloc_word.result (omega arith) in
    let same = c.from-count.ensures in
    record {
      counted = omega (arith, held, counted, same);
      most = omega (arith, most, from, bits, same);
    }

pub loop-arena-smaller : goal.loop-arena-smaller
loop-arena-smaller c =
    (let from = c.in-Some.ensures.some.from_is in
    let few = c.in-Some.ensures.some.few in omega (arith, from, few))

pub returns : goal.returns
returns c = c.loop-arena.invariant.counted
    ∙ held-all c.args.heap.now.shape.arenas c.args.zone c.loop-arena.from c.in_default.ensures.none
