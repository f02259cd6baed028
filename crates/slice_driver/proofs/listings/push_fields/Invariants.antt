use Rattle.std.proofs.Common.{◌≡◌, ◌++◌}
use Rattle.slice_driver.specs.Listings.{edges_below}
use Rattle.slice_driver.proofs.listings.push_fields.Given as goal

abbrev pub invariant-loop-i : goal.invariant-loop-i
invariant-loop-i g l = l.lines.items ≡ l.fn.lines.items ++ edges_below l.heap.shape l.place l.number l.i
