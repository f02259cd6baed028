use Rattle.std.proofs.Common.{◌≡◌, ◌*◌, length, take, vec_capacity}
use Rattle.par_mark.specs.Edges.{all_targets}
use Rattle.par_mark.proofs.first_tries.first_tries.Given as goal

abbrev pub invariant-loop-place : goal.invariant-loop-place
invariant-loop-place g l = (l.tries.items ≡ all_targets (g.H.Graph.edge l.heap) (take l.place-index l.from))
    × (vec_capacity l.tries ≡ 8 * length l.from)
