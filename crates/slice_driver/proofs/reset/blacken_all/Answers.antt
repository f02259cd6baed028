use Rattle.std.proofs.Common.{◌<◌, rules}
use Rattle.slice_driver.proofs.resetting.Blackened.{all_blackened, arena_kept, arena_made, blackens_next}
use Rattle.slice_driver.proofs.resetting.Blackened.{none_blackened}
use Rattle.slice_driver.proofs.reset.blacken_all.Goals as goal

pub loop-arena-init : goal.loop-arena-init
loop-arena-init c = none_blackened c.args.heap.now c.args.zones

pub blacken_arena-requires-clause-made : goal.blacken_arena-requires-clause-made
blacken_arena-requires-clause-made c =
    let small : c.args.zones.bits < 18446744073709551616 = search rules in
    arena_made c.args.heap.now c.args.zones c.loop-arena.from c.loop-arena.heap c.loop-arena.invariant small
    c.requires.none_out c.requires.sized c.in-Some.arena c.in-Some.ensures.owned.0 c.in-Some.ensures.owned.1
    c.in-Some.ensures.lowest

pub blacken_arena-requires-clause-kept : goal.blacken_arena-requires-clause-kept
blacken_arena-requires-clause-kept c =
    let small : c.args.zones.bits < 18446744073709551616 = search rules in
    arena_kept c.args.heap.now c.args.zones c.loop-arena.from c.loop-arena.heap c.loop-arena.invariant small
    c.requires.none_out c.requires.sized c.in-Some.arena c.in-Some.ensures.owned.0 c.in-Some.ensures.owned.1
    c.in-Some.ensures.lowest

pub loop-arena-preserved : goal.loop-arena-preserved
loop-arena-preserved c =
    let small : c.args.zones.bits < 18446744073709551616 = search rules in
    blackens_next c.args.heap.now c.args.zones c.loop-arena.from c.loop-arena.heap c.loop-arena.invariant small
    c.requires.none_out c.requires.sized c.in-Some.arena c.in-Some.ensures.owned.0 c.in-Some.ensures.owned.1
    c.in-Some.ensures.lowest c.blacken_arena.new.self c.blacken_arena.ensures

pub returns : goal.returns
returns c = all_blackened c.args.heap.now c.args.zones c.loop-arena.from c.loop-arena.heap c.loop-arena.invariant
    c.in_default.ensures.none
