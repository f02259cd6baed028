use Rattle.std.proofs.Common.{◌≤◌, ◌+◌, length}
use Rattle.slice_driver.specs.GrayRoots.{Gathers, IsGrayAmong}
use Rattle.slice_driver.specs.ListedWrappers.{is_outside, listed_below}
use Rattle.slice_driver.proofs.gray_roots.gather_wrappers.Given as goal

abbrev pub invariant-loop-index : goal.invariant-loop-index
invariant-loop-index g l = record {
  few : length l.found.items ≤ length l.fn.found.items + listed_below l.heap.shape (is_outside l.zones) l.index;
  gathered : Gathers (IsGrayAmong l.heap l.zones l.index) l.fn.found.items l.found.items;
}
