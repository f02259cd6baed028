use Rattle.std.proofs.Common.{◌≡◌, ◌++◌, ◌≤◌, drop, length}
use Rattle.gz_names.specs.Zones.{zones_in}
use Rattle.colour_defs.specs.Ends.{arenas_from}
use Rattle.judge.specs.Arenas.{owners_in}
use Rattle.judge.proofs.arenas.Arenas.numbers.Given as goal

abbrev pub invariant-loop-number : goal.invariant-loop-number
invariant-loop-number l = record {
  numbers : l.numbers.items ++ arenas_from l.number (drop l.number (owners_in l.self)) (zones_in l.zones)
      ≡ arenas_from 0 (owners_in l.self) (zones_in l.zones);
  few : length l.numbers.items ≤ l.number;
}
