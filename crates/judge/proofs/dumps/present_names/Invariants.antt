use Rattle.std.specs.Prelude.{⊤}
use Rattle.judge.proofs.Colours.{PicksOn}
use Rattle.judge.proofs.dumps.present_names.Given as goal

abbrev pub invariant-loop-name : goal.invariant-loop-name
invariant-loop-name l = PicksOn (λ x. ⊤) l.world.places.entries l.name-iterator l.names.items
