use Rattle.std.proofs.Common.{◌<◌}
use Rattle.mark_words.specs.Seats.{view_of, IsSeatOf}
use Rattle.mark_ahead.specs.Edges.{first_targets}
use Rattle.par_mark.specs.Scans.{HasScanned}
use Rattle.par_mark.proofs.scans.scan.Given as goal

abbrev pub invariant-loop-i : goal.invariant-loop-i
invariant-loop-i g l = IsSeatOf l.marks l.seat × (0 < (view_of l.seat).parts)
    × HasScanned (g.H.Graph.marking l.heap) (first_targets (g.H.Graph.edge l.heap l.place) l.i)
    (l.fn.found, view_of l.fn.seat) (l.found, view_of l.seat)
