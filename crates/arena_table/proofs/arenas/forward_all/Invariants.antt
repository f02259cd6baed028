use Rattle.std.proofs.Common.{◌≡◌}
use Rattle.std.specs.Option.{option_map}
use Rattle.arena_table.specs.Moving.{forwarded}
use Rattle.arena_table.specs.Slots.{Arena, change_at}
use Rattle.arena_table.proofs.Forwarding.{so_far}
use Rattle.arena_table.proofs.arenas.forward_all.Given as goal

abbrev pub invariant-loop-slot : goal.invariant-loop-slot
invariant-loop-slot l = record {
  done : l.store.arenas ≡ change_at
      (λ (a : Arena). record a { slots = so_far (option_map (forwarded l.moves)) l.slot a.slots })
      l.initial.store.arenas l.arena;
  room : l.store.room ≡ l.initial.store.room;
}
