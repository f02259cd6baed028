use Rattle.arena_table.specs.Cells.{state_of}
use Rattle.arena_table.proofs.Changing.{length-change_at}
use Rattle.arena_table.proofs.Placing.{open-within}
use Rattle.arena_table.proofs.Indexing.{IsIndexed-put_more, IsIndexed-put_last}
use Rattle.arena_table.proofs.arenas.put_in_arena.Goals as goal

pub head-requires : goal.head-requires
head-requires c = rw (c.put.ensures, c.arena-arena.ensures, length-change_at)
    (open-within c.args.store.now.arenas c.args.zone c.args.place.0 c.requires.takes)

pub returns-then-head-clause-indexed : goal.returns-then-head-clause-indexed
returns-then-head-clause-indexed c =
    let head = rw (c.put.ensures, c.arena-arena.ensures) at c.head.ensures.head in
    let bits = rw c.arena-arena.ensures at c.close.ensures.bits in
    rw c.put.ensures (IsIndexed-put_last c.args.store.now.arenas c.args.index.now c.close.new.self c.args.place.0
    c.args.place.1 c.args.zone (state_of c.args.cell) c.head.result.now c.requires.indexed c.requires.takes head
    c.if-head.true c.close.ensures.owned bits c.close.ensures.room c.close.ensures.others)

pub returns-else-head-clause-indexed : goal.returns-else-head-clause-indexed
returns-else-head-clause-indexed c =
    let head = rw (c.put.ensures, c.arena-arena.ensures) at c.head.ensures.head in
    rw c.put.ensures (IsIndexed-put_more c.args.store.now.arenas c.args.index.now c.args.place.0 c.args.place.1
    c.args.zone (state_of c.args.cell) c.head.result.now c.requires.indexed c.requires.takes head c.if-head.false)
