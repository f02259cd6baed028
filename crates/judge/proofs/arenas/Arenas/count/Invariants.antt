use Rattle.std.proofs.Common.{◌≡◌, ◌≤◌, take}
use Rattle.gz_names.specs.Zones.{zones_in}
use Rattle.judge.specs.Slots.{owners_of}
use Rattle.judge.specs.Bounds.{arena_count}
use Rattle.judge.proofs.arenas.Arenas.count.Given as goal

abbrev pub invariant-loop-arena : goal.invariant-loop-arena
invariant-loop-arena l = record {
  few : l.count ≤ l.arena-index;
  counted : l.count ≡ arena_count (zones_in l.zones) (owners_of (take l.arena-index l.self.arenas.items));
}
