use Rattle.std.proofs.Common.{◌≤◌, ◌-◌, length}
use Rattle.std.specs.List.Sorted.{IsPermutation}
use Rattle.heap_core.specs.Shape.{is_owned}
use Rattle.slice_driver.specs.Grays.{grays_up_to}
use Rattle.slice_driver.proofs.ends.gray_names_in.Given as goal

abbrev pub invariant-loop-arena : goal.invariant-loop-arena
invariant-loop-arena l = record {
  names : IsPermutation (grays_up_to l.heap (is_owned l.heap.shape l.zones.bits) l.from) l.keys;
  within : l.from ≤ length l.heap.shape.arenas;
}

abbrev pub decreases-loop-arena : goal.decreases-loop-arena
decreases-loop-arena l = length l.heap.shape.arenas - l.from
