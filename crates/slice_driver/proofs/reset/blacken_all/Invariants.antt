use Rattle.std.proofs.Common.{◌-◌, length}
use Rattle.slice_driver.proofs.resetting.Blackened.{BlackensBelow}
use Rattle.slice_driver.proofs.reset.blacken_all.Given as goal

abbrev pub invariant-loop-arena : goal.invariant-loop-arena
invariant-loop-arena l = BlackensBelow l.fn.heap l.zones l.from l.heap

abbrev pub decreases-loop-arena : goal.decreases-loop-arena
decreases-loop-arena l = length l.heap.shape.arenas - l.from
