use Rattle.std.proofs.Common.{◌≡◌, ◌++◌}
use Rattle.slice_driver.specs.Listings.{cells_below}
use Rattle.slice_driver.proofs.listings.push_cells.Given as goal

abbrev pub invariant-loop-slot : goal.invariant-loop-slot
invariant-loop-slot l = l.cells.items ≡ l.fn.cells.items ++ cells_below l.heap.shape l.arena l.slot
