use Rattle.std.proofs.Common.{◌≡◌, length, map, take}
use Rattle.weak_maps.proofs.Forwarding.{delegate_gone, pair_gone}
use Rattle.weak_maps.proofs.delegates.forwarded_rows.Given as goal

abbrev pub invariant-loop-key : goal.invariant-loop-key
invariant-loop-key l =
    l.gone.entries ≡ map (pair_gone l.moves (delegate_gone l.moves)) (take (length l.yielded) l.rows.entries)
