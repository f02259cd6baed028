use Rattle.std.proofs.Common.{◌≡◌, ◌<◌, ◌≤◌, ◌+◌, length}
use Rattle.slice_driver.specs.GrayRoots.{Gathers, IsSlotBefore}
use Rattle.slice_driver.proofs.gray_roots.gather_slots.Given as goal

abbrev pub invariant-loop-index : goal.invariant-loop-index
invariant-loop-index l = record {
  gathered : Gathers (IsSlotBefore l.heap.shape l.zones l.index) l.fn.found.items l.found.items;
  few : length l.found.items ≤ length l.fn.found.items + l.index;
  counted : 0 < l.index → length l.heap.shape.slots ≡ 64;
}
