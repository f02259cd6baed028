use Rattle.gz_names.specs.Zones.{zones_in}
use Rattle.judge.specs.Walks.{TurnsBlack}
use Rattle.judge.proofs.Colours.{PicksOn}
use Rattle.judge.proofs.world.World.all_turning_black.Given as goal

abbrev pub invariant-loop-name : goal.invariant-loop-name
invariant-loop-name l =
    PicksOn (λ x. TurnsBlack l.graph (zones_in l.zones) l.self.phase l.self.black x) l.self.places.entries
    l.name-iterator l.names.items
