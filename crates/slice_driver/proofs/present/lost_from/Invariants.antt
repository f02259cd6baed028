use Rattle.std.proofs.Common.{◌≡◌, ◌≤◌, ◌+◌, ◌*◌, sum_by, take}
use Rattle.slice_driver.specs.Present.{present_in_arena}
use Rattle.slice_driver.proofs.taking_in.PresentCells.{held_of}
use Rattle.slice_driver.proofs.present.lost_from.Given as goal

abbrev pub invariant-loop-arena : goal.invariant-loop-arena
invariant-loop-arena l = record {
  counted : sum_by held_of (take l.arena l.heap.shape.arenas) ≡ l.lost + sum_by present_in_arena
      (take l.arena l.heap.shape.arenas);
  few : l.lost ≤ 64 * l.arena;
}
