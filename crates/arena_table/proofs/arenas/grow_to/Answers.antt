use Rattle.std.proofs.Common.{◌∙◌, ◌≡◌, length}
use Rattle.arena_table.proofs.Indexing.{IsIndexed-grown}
use Rattle.arena_table.proofs.arenas.grow_to.Goals as goal

pub returns-then-arena-len-clause-indexed : goal.returns-then-arena-len-clause-indexed
returns-then-arena-len-clause-indexed c =
    let end : c.args.arena ≡ length c.args.store.now.arenas = c.if-arena-len.true ∙ c.len.ensures.value in
    rw c.push.ensures (IsIndexed-grown c.args.store.now.arenas c.args.index.now c.add.new.self c.open.new.self
    c.args.zone c.args.arena c.requires.indexed c.add.ensures.below end (c.requires.room end).open_
    c.add.ensures.bits c.add.ensures.others c.add.ensures.open_ c.open.ensures.bits c.open.ensures.room
    c.open.ensures.others c.open.ensures.owned)
