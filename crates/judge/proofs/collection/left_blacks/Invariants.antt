use Rattle.std.proofs.Common.{Some}
use Rattle.gz_names.specs.Zones.{zones_in}
use Rattle.judge.specs.Starts.{IsBlackOutside}
use Rattle.judge.proofs.Colours.{PicksOn}
use Rattle.judge.proofs.collection.left_blacks.Given as goal

abbrev pub invariant-loop-name : goal.invariant-loop-name
invariant-loop-name l =
    PicksOn (λ x. IsBlackOutside l.graph (zones_in l.preparation.zones) (Some l.preparation.black) x)
    l.places.entries
    l.name-iterator l.names.items
