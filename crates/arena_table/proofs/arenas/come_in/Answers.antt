use Rattle.std.proofs.Common.{refl}
use Rattle.arena_table.specs.Slots.{taken_in}
use Rattle.arena_table.proofs.Changing.{length-change_at}
use Rattle.arena_table.proofs.Indexing.{out-within, room-for, IsIndexed-taken_full, IsIndexed-freed}
use Rattle.arena_table.proofs.arenas.come_in.Goals as goal

pub head-head-requires : goal.head-head-requires
head-head-requires c =
    rw (c.take_in.ensures, length-change_at) (out-within c.args.store.now.arenas c.args.arena c.requires.out)

pub open-requires : goal.open-requires
open-requires c = room-for c.args.store.now.arenas c.args.index.now c.args.arena c.head-head.result.now.zone
    c.head-head.result.now (taken_in c.args.freed c.args.bits) c.requires.indexed
    (out-within c.args.store.now.arenas c.args.arena c.requires.out) c.requires.owned (λ x. refl)
    (rw c.take_in.ensures at c.head-head.ensures.head) refl

pub returns-then-head-clause-indexed : goal.returns-then-head-clause-indexed
returns-then-head-clause-indexed c =
    let head = rw c.take_in.ensures at c.head-head.ensures.head in
    rw c.take_in.ensures
    (IsIndexed-freed c.args.store.now.arenas c.args.index.now c.open.new.self c.args.arena c.args.freed
    c.head-head.result.now.zone c.args.bits c.head-head.result.now c.requires.indexed
    (out-within c.args.store.now.arenas c.args.arena c.requires.out) c.requires.owned head c.if-head.true refl
    c.open.ensures.owned c.open.ensures.bits c.open.ensures.room c.open.ensures.others)

pub returns-else-head-clause-indexed : goal.returns-else-head-clause-indexed
returns-else-head-clause-indexed c =
    let head = rw c.take_in.ensures at c.head-head.ensures.head in
    rw c.take_in.ensures
    (IsIndexed-taken_full c.args.store.now.arenas c.args.index.now c.args.arena c.args.freed c.args.bits
    c.head-head.result.now c.requires.indexed c.requires.out head c.if-head.false)
