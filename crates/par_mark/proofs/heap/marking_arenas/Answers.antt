use Rattle.std.proofs.Common.{◌+◌, ◌∷◌, [], ap, length, length-append, sym, subst, arith}
use Rattle.par_mark.specs.Heaps.{KnowsMarking}
use Rattle.par_mark.proofs.MarkingArenas.{knows_more}
use Rattle.par_mark.proofs.heap.marking_arenas.Goals as goal

pub loop-arena-preserved : goal.loop-arena-preserved
loop-arena-preserved c =
    let i = c.loop-arena.invariant in
    let n = c.loop-arena.arena in
    let r = c.is_marking_arena.result in
    let items = c.push_reserved.ensures.items in
    let same = i.1 in
    let longer = ap length items in
    let both = length-append c.loop-arena.marking.items (r ∷ []) in
    let room = i.2 in
    let kept = c.push_reserved.ensures.capacity in (
      subst (KnowsMarking c.args.heap.now (n + 1)) (sym items)
          (knows_more c.args.heap.now n c.loop-arena.marking.items r i.0 i.1 c.is_marking_arena.ensures),
      omega arith,
      omega arith,
    )
