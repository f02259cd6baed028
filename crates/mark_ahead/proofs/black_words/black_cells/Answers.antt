use Rattle.std.proofs.Common.{◌<◌, rules}
use Rattle.mark_ahead.proofs.MarkingArenas.{all_listed, listed_next}
use Rattle.mark_ahead.proofs.black_words.black_cells.Goals as goal

pub loop-arena-preserved : goal.loop-arena-preserved
loop-arena-preserved c =
    let small : c.marking-zones.result.bits < 18446744073709551616 = search rules in
    listed_next c.args.heap.now c.marking-zones.result.bits small c.marking-zones.ensures c.requires c.loop-arena.from
    c.in-Some.arena c.loop-arena.cells.items c.push_slots.new.places.items c.bits.result c.loop-arena.invariant
    c.in-Some.ensures.owned.0 c.in-Some.ensures.owned.1 c.in-Some.ensures.lowest c.bits.ensures
    c.in_ok-push_slots.ensures

pub returns : goal.returns
returns c =
    let small : c.marking-zones.result.bits < 18446744073709551616 = search rules in
    all_listed c.args.heap.now c.marking-zones.result.bits small c.marking-zones.ensures c.requires c.loop-arena.from
    c.loop-arena.cells.items c.loop-arena.invariant c.in_default.ensures.none
