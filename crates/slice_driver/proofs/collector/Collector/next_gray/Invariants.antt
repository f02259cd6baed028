use Rattle.std.proofs.Common.{◌≡◌, true, None}
use Rattle.heap_core.specs.Heap.{joined}
use Rattle.barriers.specs.Spreading.{Covers}
use Rattle.slice_driver.specs.Grays.{grays_up_to}
use Rattle.slice_driver.specs.NextGray.{Picks}
use Rattle.slice_driver.proofs.collector.Collector.next_gray.Given as goal

abbrev pub invariant-loop-arena : goal.invariant-loop-arena
invariant-loop-arena g l = record {
  picks : Picks l.after None (grays_up_to (joined l.self.heap (g.F.Flight.bits l.fn.flight)) (λ a. true) l.arena)
      l.first;
  same : joined l.self.heap (g.F.Flight.bits l.flight) ≡ joined l.self.heap (g.F.Flight.bits l.fn.flight);
  covers : Covers l.self.heap.shape (g.F.Flight.bits l.flight);
  origin : g.F.Flight.origin l.flight ≡ g.F.Flight.origin l.fn.flight;
}
