use Rattle.std.proofs.Common.{◌≡◌, map, take}
use Rattle.gz_names.specs.Moves.{moved}
use Rattle.weak_refs.proofs.weak_names.forwarded_cells.Given as goal

abbrev pub invariant-loop-place : goal.invariant-loop-place
invariant-loop-place l = l.gone.keys ≡ map (moved l.moves) (take l.place-index l.place-items)
