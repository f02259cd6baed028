use Rattle.std.proofs.Common.{◌≡◌}
use Rattle.slice_driver.specs.Listings.{cells_up_to}
use Rattle.slice_driver.proofs.listings.cells_by_name.Given as goal

abbrev pub invariant-loop-arena : goal.invariant-loop-arena
invariant-loop-arena l = l.cells.items ≡ cells_up_to l.heap.shape l.arena
