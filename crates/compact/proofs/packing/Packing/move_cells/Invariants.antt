use Rattle.std.proofs.Common.{◌≡◌, ◌≤◌, ◌-◌, ◌^◌}
use Rattle.compact.specs.Packed.{AreCounted, IsPacked}
use Rattle.compact.proofs.packing.Packing.move_cells.Given as goal

abbrev pub invariant-loop-arena : goal.invariant-loop-arena
invariant-loop-arena l = record {
  packed : IsPacked l.heap.shape l.zone (l.from, 0) l.self;
  counted : AreCounted l.heap.shape l.zone l.from l.self;
  first : l.self.first_given_up ≡ l.fn.self.first_given_up;
  above : l.fn.self.first_given_up ≤ l.from;
}

abbrev pub decreases-loop-arena : goal.decreases-loop-arena
decreases-loop-arena l = 2 ^ 32 - l.from
