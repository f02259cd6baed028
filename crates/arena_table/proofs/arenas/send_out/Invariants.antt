use Rattle.std.proofs.Common.{length}
use Rattle.arena_table.specs.Slots.{handed_out}
use Rattle.arena_table.specs.Table.{AreOut}
use Rattle.arena_table.specs.Walks.{walk_rest}
use Rattle.arena_table.proofs.Visiting.{IsChanging}
use Rattle.arena_table.proofs.arenas.send_out.Given as goal

abbrev pub invariant-loop-arena : goal.invariant-loop-arena
invariant-loop-arena l = IsChanging handed_out l.initial.store.arenas l.store.arenas l.index.owned l.fn.zones.bits
    l.walk × AreOut l.store.arenas l.out

abbrev pub decreases-loop-arena : goal.decreases-loop-arena
decreases-loop-arena l = length (walk_rest l.store.arenas l.walk)
