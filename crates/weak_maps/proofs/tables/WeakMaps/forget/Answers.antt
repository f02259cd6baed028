use Rattle.weak_maps.specs.declared.colours.MarkColour.TheVariants.{Black, Gray}
use Rattle.weak_maps.specs.declared.colours.MarkColour.{MarkColour}
use Rattle.weak_maps.specs.WeakMaps.{NoneLeft}
use Rattle.weak_maps.proofs.tables.WeakMaps.forget.Goals as goal

pub returns-clause-none : goal.returns-clause-none
returns-clause-none c = each
  where
    each : (colour : MarkColour) → NoneLeft colour c.forget_in-2.new.self.looks
    each Black = c.forget_in-2.ensures.fewer Black c.forget_in.ensures.none
    each Gray = c.forget_in-2.ensures.none
