use Rattle.std.proofs.Common.{◌≡◌, take}
use Rattle.mark_ahead.specs.Ahead.{StartsAll}
use Rattle.mark_ahead.proofs.ahead.start_all.Given as goal

abbrev pub invariant-loop-cell : goal.invariant-loop-cell
invariant-loop-cell l = record {
  rest : l.heap ≡ record l.fn.heap { looks = l.heap.looks };
  starts : StartsAll l.fn.heap (take l.cell-index l.cells) l.fn.heap.looks l.heap.looks;
}
