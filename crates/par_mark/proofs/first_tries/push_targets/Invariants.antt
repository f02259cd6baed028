use Rattle.std.proofs.Common.{◌≡◌, ◌++◌}
use Rattle.std.specs.Prelude.{vec_capacity}
use Rattle.mark_ahead.specs.Edges.{first_targets}
use Rattle.par_mark.proofs.first_tries.push_targets.Given as goal

abbrev pub invariant-loop-i : goal.invariant-loop-i
invariant-loop-i g l = (l.tries.items ≡ l.fn.tries.items ++ first_targets (g.H.Graph.edge l.heap l.place) l.i)
    × (vec_capacity l.tries ≡ vec_capacity l.fn.tries)
