use Rattle.crossbeam_queue.specs.Passes.{view, IsPassOf}
use Rattle.mark_words.specs.Seats.{view_of, IsSeatOf}
use Rattle.par_mark.specs.Lists.{AreAsLarge}
use Rattle.par_mark.specs.States.{state_of}
use Rattle.par_mark.specs.Tries.{HasTurned}
use Rattle.par_mark.proofs.run.find_and_try.Given as goal

abbrev pub invariant-loop-look : goal.invariant-loop-look
invariant-loop-look g l = IsSeatOf l.marks l.seat × IsPassOf l.ring l.pass × AreAsLarge l.fn.lists l.lists
    × HasTurned (g.H.Graph.edge l.heap) (g.H.Graph.marking l.heap) g.L.PlaceList.places 0
    (state_of l.fn.lists (view_of l.fn.seat) (view l.fn.pass)) (state_of l.lists (view_of l.seat) (view l.pass))
