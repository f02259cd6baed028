use Rattle.std.proofs.Common.{◌-◌, length}
use Rattle.slice_driver.proofs.resetting.Followed.{FollowsOn, rest_in}
use Rattle.slice_driver.proofs.reset.follow_all.Given as goal

abbrev pub invariant-loop-arena : goal.invariant-loop-arena
invariant-loop-arena g l = FollowsOn g.F.Flight.bits g.F.Flight.origin
    (rest_in l.zones.bits 0 l.from l.fn.heap.shape.arenas) (rest_in l.zones.bits 0 l.from l.fn.heap.shape.arenas)
    l.fn.heap l.fn.flight l.fn.stack l.heap l.flight l.stack

abbrev pub decreases-loop-arena : goal.decreases-loop-arena
decreases-loop-arena g l = length l.fn.heap.shape.arenas - l.from
