use Rattle.std.proofs.Common.{◌≡◌, drop}
use Rattle.colour_defs.specs.Compaction.{given_up_from}
use Rattle.judge.specs.Arenas.{owners_in}
use Rattle.judge.proofs.arenas.Arenas.give_up.Given as goal

abbrev pub invariant-loop-number : goal.invariant-loop-number
invariant-loop-number l = record {
  owners : given_up_from 0 (owners_in l.self) (drop l.number-index l.numbers)
      ≡ given_up_from 0 (owners_in l.fn.self) l.numbers;
  out : l.self.out.items ≡ l.fn.self.out.items;
  lying : l.self.lying ≡ l.fn.self.lying;
}
