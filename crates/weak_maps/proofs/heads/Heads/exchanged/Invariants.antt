use Rattle.std.proofs.Common.{◌≡◌, take}
use Rattle.gz_names.specs.declared.numbers.Place.{Place}
use Rattle.weak_maps.specs.Heads.{head_of}
use Rattle.weak_maps.specs.Moving.{exchanged}
use Rattle.weak_maps.proofs.heads.Heads.exchanged.Given as goal

abbrev pub invariant-loop-step : goal.invariant-loop-step
invariant-loop-step l =
    (q : Place) → head_of l.heads q ≡ head_of l.initial.heads (exchanged (take l.step-index l.step-items) q)
