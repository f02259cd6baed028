use Rattle.arena_table.proofs.Putting.{grown-open}
use Rattle.arena_table.proofs.arenas.put_in_zone.Goals as goal

pub put_in_arena-requires-clause-takes : goal.put_in_arena-requires-clause-takes
put_in_arena-requires-clause-takes c =
    rw (c.grow_to.ensures.arenas, c.arena.ensures)
    (grown-open c.args.store.now.arenas c.args.zone c.args.place c.requires.place)
