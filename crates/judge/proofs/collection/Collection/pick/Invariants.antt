use Rattle.gz_names.specs.Zones.{zones_in}
use Rattle.judge.specs.Cells.{HasShade}
use Rattle.judge.proofs.Colours.{PicksOn}
use Rattle.judge.proofs.collection.Collection.pick.Given as goal

abbrev pub invariant-loop-name : goal.invariant-loop-name
invariant-loop-name l =
    PicksOn (λ x. HasShade l.graph (zones_in l.zones) l.self.black.names l.self.live.names x l.shade) l.places.entries
    l.name-iterator l.names.items
