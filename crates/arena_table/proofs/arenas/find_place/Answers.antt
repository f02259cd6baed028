use Rattle.arena_table.proofs.Placing.{open-yes, open-within, place_for-none, found-place}
use Rattle.arena_table.proofs.arenas.find_place.Goals as goal

pub returns-in_err-arena-clause-none : goal.returns-in_err-arena-clause-none
returns-in_err-arena-clause-none c =
    rw c.from_residual.ensures
    (place_for-none c.args.store.now.arenas c.args.index.now c.args.zone c.requires c.lowest_open.ensures.below
    c.in_err-arena.ensures.none)

pub head-requires : goal.head-requires
head-requires c = open-within c.args.store.now.arenas c.args.zone c.in_ok-arena.arena
    (open-yes c.args.store.now.arenas c.args.index.now c.args.zone c.in_ok-arena.arena c.requires
    c.lowest_open.ensures.below c.in_ok-arena.ensures.some)

pub returns-clause-some : goal.returns-clause-some
returns-clause-some c =
    let found = found-place c.args.store.now.arenas c.args.index.now c.args.zone c.in_ok-arena.arena
    c.trailing_ones-slot.result c.head.result.now c.new.result c.requires c.lowest_open.ensures.below
    c.in_ok-arena.ensures.some c.in_ok-arena.ensures.lowest c.head.ensures.head c.trailing_ones-slot.ensures
    c.new.ensures in
    rw found.1 found.2

pub returns-clause-takes : goal.returns-clause-takes
returns-clause-takes c =
    let found = found-place c.args.store.now.arenas c.args.index.now c.args.zone c.in_ok-arena.arena
    c.trailing_ones-slot.result c.head.result.now c.new.result c.requires c.lowest_open.ensures.below
    c.in_ok-arena.ensures.some c.in_ok-arena.ensures.lowest c.head.ensures.head c.trailing_ones-slot.ensures
    c.new.ensures in
    rw found.1 found.3

pub returns-clause-none : goal.returns-clause-none
returns-clause-none c =
    let found = found-place c.args.store.now.arenas c.args.index.now c.args.zone c.in_ok-arena.arena
    c.trailing_ones-slot.result c.head.result.now c.new.result c.requires c.lowest_open.ensures.below
    c.in_ok-arena.ensures.some c.in_ok-arena.ensures.lowest c.head.ensures.head c.trailing_ones-slot.ensures
    c.new.ensures in
    rw found.1 tt
