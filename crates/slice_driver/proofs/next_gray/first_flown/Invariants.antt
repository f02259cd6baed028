use Rattle.std.proofs.Common.{◌≡◌}
use Rattle.heap_core.specs.Heap.{joined}
use Rattle.barriers.specs.Spreading.{Covers}
use Rattle.slice_driver.specs.Grays.{grays_below}
use Rattle.slice_driver.specs.NextGray.{Picks}
use Rattle.slice_driver.proofs.next_gray.first_flown.Given as goal

abbrev pub invariant-loop-slot : goal.invariant-loop-slot
invariant-loop-slot g l = record {
  picks : Picks l.after l.fn.first (grays_below (joined l.fn.heap (g.F.Flight.bits l.fn.flight)) l.arena l.slot)
      l.found;
  same : joined l.heap (g.F.Flight.bits l.flight) ≡ joined l.heap (g.F.Flight.bits l.fn.flight);
  covers : Covers l.heap.shape (g.F.Flight.bits l.flight);
  origin : g.F.Flight.origin l.flight ≡ g.F.Flight.origin l.fn.flight;
}
