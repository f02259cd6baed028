use Rattle.std.proofs.Common.{◌-◌, length}
use Rattle.weak_maps.specs.WeakMaps.{maps_delegated_in}
use Rattle.slice_driver.proofs.marking.BlackMaps.{QueuesSoFar}
use Rattle.slice_driver.proofs.marking_steps.queue_black_maps.Given as goal

abbrev pub invariant-loop-map : goal.invariant-loop-map
invariant-loop-map l = QueuesSoFar l.fn.heap l.fn.zone l.index l.heap

abbrev pub decreases-loop-map : goal.decreases-loop-map
decreases-loop-map l = length (maps_delegated_in l.heap.shape.weak l.fn.zone) - l.index
