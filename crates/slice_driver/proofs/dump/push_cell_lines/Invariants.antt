use Rattle.std.proofs.Common.{◌≡◌, ◌++◌, map, take}
use Rattle.heap_core.specs.Heap.{joined}
use Rattle.barriers.specs.Spreading.{Covers}
use Rattle.slice_driver.specs.Dumps.{coloured_line}
use Rattle.slice_driver.proofs.dump.push_cell_lines.Given as goal

abbrev pub invariant-loop-cell : goal.invariant-loop-cell
invariant-loop-cell g l = record {
  lines : l.lines.items ≡ l.fn.lines.items
      ++ map (coloured_line (joined l.heap (g.F.Flight.bits l.fn.flight))) (take l.cell-index l.cells);
  same : joined l.heap (g.F.Flight.bits l.flight) ≡ joined l.heap (g.F.Flight.bits l.fn.flight);
  covers : Covers l.heap.shape (g.F.Flight.bits l.flight);
  origin : g.F.Flight.origin l.flight ≡ g.F.Flight.origin l.fn.flight;
}
