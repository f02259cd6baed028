use Rattle.std.proofs.Common.{◌≡◌, length}
use Rattle.arena_table.specs.Moving.{all_forwarded}
use Rattle.arena_table.specs.Walks.{walk_rest}
use Rattle.arena_table.proofs.Visiting.{IsChanging}
use Rattle.arena_table.proofs.arenas.forward_zones.Given as goal

abbrev pub invariant-loop-arena : goal.invariant-loop-arena
invariant-loop-arena l = record {
  changing : IsChanging (all_forwarded l.moves) l.initial.store.arenas l.store.arenas l.index.owned l.fn.zones.bits
      l.walk;
  sized : length l.store.arenas ≡ length l.initial.store.arenas;
  room : l.store.room ≡ l.initial.store.room;
}

abbrev pub decreases-loop-arena : goal.decreases-loop-arena
decreases-loop-arena l = length (walk_rest l.store.arenas l.walk)
