use Rattle.std.proofs.Common.{◌≡◌, ◌+◌, ◌-◌, ◌^◌, take}
use Rattle.compact.proofs.Counting.{one_at, sum_from}
use Rattle.compact.proofs.arenas.arena_after.Given as goal

abbrev pub invariant-loop-arena : goal.invariant-loop-arena
invariant-loop-arena l = record {
  counted : l.fn.count ≡ l.left + sum_from (one_at l.zone) 0 (take l.from l.heap.shape.arenas);
}

abbrev pub decreases-loop-arena : goal.decreases-loop-arena
decreases-loop-arena l = 2 ^ 32 - l.from
