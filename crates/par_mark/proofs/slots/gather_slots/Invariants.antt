use Rattle.std.proofs.Common.{◌≡◌}
use Rattle.std.specs.VecDeque.{deque_capacity}
use Rattle.par_mark.specs.Slots.{AreGathered}
use Rattle.par_mark.proofs.slots.gather_slots.Given as goal

abbrev pub invariant-loop : goal.invariant-loop
invariant-loop l = AreGathered l.first l.counter l.fn.tries.items l.tries.items l.slots
    × (deque_capacity l.tries ≡ deque_capacity l.fn.tries)
