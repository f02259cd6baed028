use Rattle.std.proofs.Common.{◌∙◌, sym, subst}
use Rattle.heap_core.specs.Shape.{Shape}
use Rattle.barriers.specs.Spreading.{Covers}
use Rattle.barriers.proofs.Answering.{bits_within}
use Rattle.marker.proofs.LookSteps.{graying_by, raises_black, raises_gray, raises_white, shades_shape}
use Rattle.marker.proofs.weak_units.raise.Goals as goal

pub weaker_colour-requires-clause-one_made : goal.weaker_colour-requires-clause-one_made
weaker_colour-requires-clause-one_made g c =
    bits_within c.args.heap.now (g.F.Flight.bits c.args.flight.now) c.args.one c.requires.marks.colours c.requires.one

pub weaker_colour-requires-clause-other_made : goal.weaker_colour-requires-clause-other_made
weaker_colour-requires-clause-other_made g c =
    bits_within c.args.heap.now (g.F.Flight.bits c.args.flight.now) c.args.other c.requires.marks.colours
    c.requires.other

pub shade-requires-clause-group : goal.shade-requires-clause-group
shade-requires-clause-group g c = graying_by c.args.heap.now.shape _ c.in_state-group.ensures

pub returns-in-White-clause-raises : goal.returns-in-White-clause-raises
returns-in-White-clause-raises g c = raises_white _ _ _ _ _ _ (sym c.weaker_colour.ensures.weaker ∙ c.in-White.is)
    c.weaker_colour.ensures.kept.same

pub returns-in-Gray-clause-raises : goal.returns-in-Gray-clause-raises
returns-in-Gray-clause-raises g c = raises_gray _ _ _ _ _ _ _ _ (sym c.weaker_colour.ensures.weaker ∙ c.in-Gray.is)
    c.weaker_colour.ensures.kept.same c.shade.ensures

pub returns-in-Gray-clause-covers : goal.returns-in-Gray-clause-covers
returns-in-Gray-clause-covers g c = subst (λ (s : Shape). Covers s (g.F.Flight.bits c.weaker_colour.new.flight))
    (sym (shades_shape _ _ _ _ _ c.shade.ensures)) c.weaker_colour.ensures.kept.covers

pub returns-in-Black-clause-raises : goal.returns-in-Black-clause-raises
returns-in-Black-clause-raises g c = raises_black _ _ _ _ _ _ _ _ (sym c.weaker_colour.ensures.weaker ∙ c.in-Black.is)
    c.weaker_colour.ensures.kept.same c.turn.ensures.turns
