use Rattle.std.proofs.Common.{◌<◌, ◌+◌, refl, rules, subst, sym}
use Rattle.heap_core.specs.Heap.{HeapState}
use Rattle.mark_ahead.proofs.MarkingArenas.{TakesBelow, all_taken, arena_kept, takes_next}
use Rattle.mark_ahead.proofs.black_words.take_words.Goals as goal

pub set_bits-requires-clause-kept : goal.set_bits-requires-clause-kept
set_bits-requires-clause-kept c =
    let small : c.marking-zones.result.bits < 18446744073709551616 = search rules in
    arena_kept c.args.words.now c.args.heap.now c.marking-zones.result.bits small c.marking-zones.ensures
    c.requires.sized c.loop-arena.from c.loop-arena.heap c.loop-arena.invariant c.in-Some.arena
    c.in-Some.ensures.owned.0 c.in-Some.ensures.owned.1 c.requires.kept

pub returns : goal.returns
returns c =
    let small : c.marking-zones.result.bits < 18446744073709551616 = search rules in
    all_taken c.args.words.now c.args.heap.now c.marking-zones.result.bits small c.marking-zones.ensures
    c.requires.sized c.loop-arena.from c.loop-arena.heap c.loop-arena.invariant c.in_default.ensures.none

pub loop-arena-preserved : goal.loop-arena-preserved
loop-arena-preserved c =
    let small : c.marking-zones.result.bits < 18446744073709551616 = search rules in
    subst (λ (z : HeapState). TakesBelow c.args.words.now c.args.heap.now (c.in-Some.arena + 1) z)
    (sym c.set_bits.ensures)
    (takes_next c.args.words.now c.args.heap.now c.marking-zones.result.bits small c.marking-zones.ensures
    c.requires.sized c.loop-arena.from c.loop-arena.heap c.loop-arena.invariant c.in-Some.arena
    c.in-Some.ensures.owned.0 c.in-Some.ensures.owned.1 c.in-Some.ensures.lowest c.bits-gob.result c.bits-gob.ensures
    _ refl refl)
