use Rattle.gz_names.specs.Zones.{zones_in}
use Rattle.colour_defs.specs.Graph.{IsInZones}
use Rattle.judge.proofs.Colours.{PicksOn}
use Rattle.judge.proofs.collection.outside.Given as goal

abbrev pub invariant-loop-name : goal.invariant-loop-name
invariant-loop-name l =
    PicksOn (λ x. IsInZones l.graph (zones_in l.zones) x → ⊥) l.places.entries l.name-iterator l.names.items
