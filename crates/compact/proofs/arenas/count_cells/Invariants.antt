use Rattle.std.proofs.Common.{◌≡◌, ◌≤◌, ◌*◌, ◌-◌, ◌^◌, take}
use Rattle.compact.proofs.Counting.{held_at, sum_from}
use Rattle.compact.proofs.arenas.count_cells.Given as goal

abbrev pub invariant-loop-arena : goal.invariant-loop-arena
invariant-loop-arena l = record {
  counted : l.count ≡ sum_from (held_at l.zone) 0 (take l.from l.heap.shape.arenas);
  most : l.count ≤ 64 * l.from;
}

abbrev pub decreases-loop-arena : goal.decreases-loop-arena
decreases-loop-arena l = 2 ^ 32 - l.from
