use Rattle.std.proofs.Common.{ℕ, ◌-◌, ◌<◌, ◌≤◌, List}
use Rattle.crossbeam_queue.specs.Passes.{view, IsPassOf}
use Rattle.mark_words.specs.Seats.{view_of, IsSeatOf}
use Rattle.par_mark.specs.Lists.{AreAsLarge}
use Rattle.par_mark.specs.States.{state_of}
use Rattle.par_mark.specs.Tries.{HasTriedSome}
use Rattle.par_mark.proofs.turns.try_places.Given as goal

abbrev pub invariant-loop-made : goal.invariant-loop-made
invariant-loop-made g l = IsSeatOf l.marks l.seat × IsPassOf l.ring l.pass × AreAsLarge l.fn.lists l.lists
    × (0 < l.made) × (l.made ≤ l.most)
    × ((won : List (ℕ × ℕ)) × HasTriedSome (g.H.Graph.edge l.heap) (g.H.Graph.marking l.heap)
    g.L.PlaceList.places l.made won (state_of l.fn.lists (view_of l.fn.seat) (view l.fn.pass))
    (state_of l.lists (view_of l.seat) (view l.pass)))

abbrev pub decreases-loop-made : goal.decreases-loop-made
decreases-loop-made g l = l.most - l.made
