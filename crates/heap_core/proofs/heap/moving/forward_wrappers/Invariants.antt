use Rattle.std.proofs.Common.{◌-◌, ◌≤◌, length}
use Rattle.wrappers.specs.WrapperMaps.{list_of}
use Rattle.heap_core.specs.Moving.{Forwards}
use Rattle.heap_core.proofs.Forwarded.{IsListedBefore}
use Rattle.heap_core.proofs.heap.moving.forward_wrappers.Given as goal

abbrev pub invariant-loop-wrapper : goal.invariant-loop-wrapper
invariant-loop-wrapper l = record {
  before : l.cursor ≤ length (list_of l.wrappers l.zone);
  forwards : Forwards (IsListedBefore l.wrappers l.zone l.cursor) l.moves l.fn.arenas l.arenas;
}

abbrev pub decreases-loop-wrapper : goal.decreases-loop-wrapper
decreases-loop-wrapper l = length (list_of l.wrappers l.zone) - l.cursor
