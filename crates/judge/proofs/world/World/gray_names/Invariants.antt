use Rattle.std.proofs.Common.{Contains}
use Rattle.judge.proofs.Colours.{PicksOn}
use Rattle.judge.proofs.world.World.gray_names.Given as goal

abbrev pub invariant-loop-name : goal.invariant-loop-name
invariant-loop-name l =
    PicksOn (λ x. Contains l.self.black.names x → ⊥) l.self.places.entries l.name-iterator l.names.items
