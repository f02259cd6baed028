use Rattle.std.proofs.Common.{◌≡◌, ◌<◌, ◌++◌, take}
use Rattle.std.specs.VecDeque.{deque_capacity}
use Rattle.mark_words.specs.Seats.{view_of, IsSeatOf}
use Rattle.par_mark.specs.Edges.{all_targets}
use Rattle.par_mark.specs.Scans.{HasScanned}
use Rattle.par_mark.proofs.scans.scan_all.Given as goal

abbrev pub invariant-loop-place : goal.invariant-loop-place
invariant-loop-place g l = IsSeatOf l.marks l.seat × (0 < (view_of l.seat).parts)
    × HasScanned (g.H.Graph.marking l.heap) (all_targets (g.H.Graph.edge l.heap) (take l.place-index l.cells))
    (l.fn.tries.items, view_of l.fn.seat) (l.tries.items ++ l.found, view_of l.seat)
    × (deque_capacity l.tries ≡ deque_capacity l.fn.tries)
