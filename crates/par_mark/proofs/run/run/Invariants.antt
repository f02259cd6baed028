use Rattle.std.proofs.Common.{◌+◌, ◌≤◌, length, vec_capacity}
use Rattle.crossbeam_queue.specs.Passes.{IsPassOf}
use Rattle.mark_words.specs.Seats.{IsSeatOf}
use Rattle.par_mark.specs.Lists.{outside_of}
use Rattle.par_mark.specs.Callers.{HasRun}
use Rattle.par_mark.proofs.run.run.Given as goal

abbrev pub invariant-loop-left : goal.invariant-loop-left
invariant-loop-left g l = IsSeatOf l.marks l.caller.seat × IsPassOf l.ring l.caller.pass
    × HasRun (g.H.Graph.edge l.heap) (g.H.Graph.marking l.heap) g.L.PlaceList.places l.fn.caller l.caller
    × (length (outside_of l.caller.lists) + l.left ≤ vec_capacity l.fn.caller.lists.outside)

abbrev pub decreases-loop-left : goal.decreases-loop-left
decreases-loop-left g l = l.left
