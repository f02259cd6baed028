use Rattle.gz_names.specs.Zones.{zones_in}
use Rattle.judge.specs.Starts.{IsBlackElsewhere}
use Rattle.judge.proofs.Colours.{PicksOn}
use Rattle.judge.proofs.preparation.blacks_outside.Given as goal

abbrev pub invariant-loop-name : goal.invariant-loop-name
invariant-loop-name l =
    PicksOn (λ x. IsBlackElsewhere l.graph (zones_in l.zones) l.black.names x) l.places.entries
    l.name-iterator l.names.items
