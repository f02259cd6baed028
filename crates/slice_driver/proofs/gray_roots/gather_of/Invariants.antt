use Rattle.std.proofs.Common.{◌-◌, ◌≤◌, ◌+◌, length}
use Rattle.wrappers.specs.WrapperMaps.{list_of}
use Rattle.slice_driver.specs.GrayRoots.{Gathers, IsGrayBefore}
use Rattle.slice_driver.proofs.gray_roots.gather_of.Given as goal

abbrev pub invariant-loop-wrapper : goal.invariant-loop-wrapper
invariant-loop-wrapper g l = record {
  before : l.cursor ≤ length (list_of l.heap.shape.wrappers l.zone);
  few : length l.found.items ≤ length l.fn.found.items + l.cursor;
  gathered : Gathers (IsGrayBefore l.heap l.zones l.zone l.cursor) l.fn.found.items l.found.items;
}

abbrev pub decreases-loop-wrapper : goal.decreases-loop-wrapper
decreases-loop-wrapper g l = length (list_of l.heap.shape.wrappers l.zone) - l.cursor
