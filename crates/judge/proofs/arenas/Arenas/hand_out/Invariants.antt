use Rattle.std.proofs.Common.{◌≡◌, ◌-◌, ◌++◌, drop, reverse, length}
use Rattle.gz_names.specs.Zones.{zones_in}
use Rattle.colour_defs.specs.Ends.{arenas_from}
use Rattle.judge.specs.Arenas.{owners_in}
use Rattle.judge.proofs.arenas.Arenas.hand_out.Given as goal

abbrev pub invariant-loop-back : goal.invariant-loop-back
invariant-loop-back l = record {
  owners : owners_in l.self ≡ owners_in l.fn.self;
  len : length l.self.arenas.items ≡ l.count;
  out : reverse l.self.out.items
      ≡ arenas_from (l.count - l.back) (drop (l.count - l.back) (owners_in l.fn.self)) (zones_in l.zones)
      ++ reverse l.fn.self.out.items;
  lying : l.self.lying ≡ l.fn.self.lying;
}
