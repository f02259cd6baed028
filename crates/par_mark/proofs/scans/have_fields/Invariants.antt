use Rattle.std.proofs.Common.{◌≡◌, [], take}
use Rattle.par_mark.specs.Edges.{all_targets}
use Rattle.par_mark.proofs.scans.have_fields.Given as goal

abbrev pub invariant-loop-place : goal.invariant-loop-place
invariant-loop-place g l = l.most ≡ 0 → all_targets (g.H.Graph.edge l.heap) (take l.place-index l.cells) ≡ []
