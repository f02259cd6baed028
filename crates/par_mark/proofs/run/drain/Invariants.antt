use Rattle.std.proofs.Common.{◌≡◌, ℕ, ◌-◌, List, [], vec_capacity}
use Rattle.crossbeam_queue.specs.Passes.{view, IsPassOf}
use Rattle.mark_words.specs.Seats.{view_of, IsSeatOf}
use Rattle.mark_words.specs.Sums.{whole}
use Rattle.par_mark.specs.Accounts.{Accounts}
use Rattle.par_mark.specs.Lists.{AreAsLarge, outside_of, tries_of, won_of}
use Rattle.par_mark.specs.Tries.{HasGrown, TakenWasPut, done}
use Rattle.par_mark.proofs.run.drain.Given as goal

abbrev pub invariant-loop : goal.invariant-loop
invariant-loop g l = IsSeatOf l.marks l.seat × ((view_of l.seat).parts ≡ (view_of l.fn.seat).parts)
    × IsPassOf l.ring l.pass × ((view l.pass).parts ≡ whole) × AreAsLarge l.fn.lists l.lists
    × TakenWasPut (view l.pass) × (won_of l.lists ≡ [])
    × ((firsts : List (ℕ × ℕ)) → Accounts (g.H.Graph.edge l.heap) (g.H.Graph.marking l.heap) g.L.PlaceList.places
    firsts [] [] (tries_of l.fn.lists) (outside_of l.fn.lists) (view_of l.fn.seat) (view l.fn.pass)
    → Accounts (g.H.Graph.edge l.heap) (g.H.Graph.marking l.heap) g.L.PlaceList.places firsts [] [] (tries_of l.lists)
    (outside_of l.lists) (view_of l.seat) (view l.pass))
    × HasGrown (outside_of l.fn.lists) (view_of l.fn.seat) (view l.fn.pass) (outside_of l.lists) (view_of l.seat)
    (view l.pass)

abbrev pub decreases-loop : goal.decreases-loop
decreases-loop g l = vec_capacity l.fn.lists.outside - done (view_of l.seat) (outside_of l.lists)
