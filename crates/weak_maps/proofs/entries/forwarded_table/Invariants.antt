use Rattle.std.proofs.Common.{◌≡◌, length, map, take}
use Rattle.gz_names.specs.Moves.{moved}
use Rattle.weak_maps.proofs.Forwarding.{pair_gone}
use Rattle.weak_maps.proofs.entries.forwarded_table.Given as goal

abbrev pub invariant-loop-key : goal.invariant-loop-key
invariant-loop-key l =
    l.gone.entries ≡ map (pair_gone l.moves (moved l.moves)) (take (length l.yielded) l.table.entries)
