use Rattle.std.proofs.Common.{◌++◌, List, slice_get}
use Rattle.gz_names.specs.declared.numbers.Place.{Place}
use Rattle.arena_table.specs.Delayed.{places_of}
use Rattle.arena_table.specs.Slots.{at_bits}
use Rattle.slice_driver.specs.Resets.{MayFollowAll, cells_of}
use Rattle.slice_driver.proofs.resetting.Followed.{FollowsOn}
use Rattle.slice_driver.proofs.reset.follow_arena.Given as goal

abbrev pub invariant-loop-left : goal.invariant-loop-left
invariant-loop-left g l = (rest : List Place)
    → MayFollowAll g.L.Ledger.name (cells_of l.arena (slice_get l.fn.heap.shape.arenas l.arena)) rest l.fn.heap
    (g.F.Flight.bits l.fn.flight) l.fn.stack
    → FollowsOn g.F.Flight.bits g.F.Flight.origin (at_bits l.left (places_of l.arena))
    (at_bits l.left (places_of l.arena) ++ rest) l.fn.heap l.fn.flight l.fn.stack l.heap l.flight l.stack

abbrev pub decreases-loop-left : goal.decreases-loop-left
decreases-loop-left g l = l.left
