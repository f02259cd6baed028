use Rattle.std.proofs.Common.{◌≡◌, ◌<◌, ◌≤◌, ◌-◌, ◌^◌, ℕ, length, nat_lt, option_map, slice_get, take, if◌then◌else◌}
use Rattle.arena_table.specs.Indexed.{IsIndexed}
use Rattle.arena_table.specs.Moving.{count_from}
use Rattle.arena_table.proofs.GivenUp.{given_up_at}
use Rattle.arena_table.proofs.arenas.give_up_all.Given as goal

abbrev pub invariant-loop-arena : goal.invariant-loop-arena
invariant-loop-arena l = record {
  sized : length l.store.arenas ≡ length l.initial.store.arenas;
  gone : (b : ℕ) → slice_get l.store.arenas b
      ≡ (if nat_lt b l.from then option_map (given_up_at l.zone l.fn.first b) (slice_get l.initial.store.arenas b)
      else slice_get l.initial.store.arenas b);
  counted : l.count ≡ count_from l.zone l.fn.first 0 (take l.from l.initial.store.arenas);
  most : l.count ≤ l.from;
  few : l.from < 2 ^ 32;
  from : l.fn.first ≤ l.from;
  indexed : IsIndexed l.store.arenas l.index;
}

abbrev pub decreases-loop-arena : goal.decreases-loop-arena
decreases-loop-arena l = 2 ^ 32 - l.from
