use Rattle.std.proofs.Common.{◌≡◌, List, take}
use Rattle.gz_names.specs.declared.numbers.Place.{Place}
use Rattle.heap_core.specs.Heap.{joined}
use Rattle.barriers.specs.Invariant.{InvariantWhile}
use Rattle.barriers.specs.Pending.{pending}
use Rattle.barriers.specs.Spreading.{Covers}
use Rattle.mark_ahead.proofs.TurnedSome.{TurnedSome}
use Rattle.mark_ahead.proofs.ahead.turn_all.Given as goal

abbrev pub invariant-loop-place : goal.invariant-loop-place
invariant-loop-place g l = record {
  turned : (followed : List Place)
      → InvariantWhile followed (joined l.fn.heap (g.F.Flight.bits l.fn.flight)) (pending l.fn.heap l.fn.stack)
      → TurnedSome followed (take l.place-index l.places) (joined l.fn.heap (g.F.Flight.bits l.fn.flight))
      (pending l.fn.heap l.fn.stack) (joined l.heap (g.F.Flight.bits l.flight)) (pending l.heap l.stack);
  covers : Covers l.heap.shape (g.F.Flight.bits l.flight);
  origin : g.F.Flight.origin l.flight ≡ g.F.Flight.origin l.fn.flight;
}
