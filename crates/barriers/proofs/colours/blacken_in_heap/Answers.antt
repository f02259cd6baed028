use Rattle.std.proofs.Common.{ap, ◌∙◌, is_some}
use Rattle.barriers.proofs.Flying.{none_flown}
use Rattle.barriers.proofs.Answering.{answers_own, bits_within, taken_delayed}
use Rattle.barriers.proofs.colours.blacken_in_heap.Goals as goal

pub mark_black-requires-clause-made : goal.mark_black-requires-clause-made
mark_black-requires-clause-made g c =
    bits_within c.args.heap.now (g.F.Flight.bits c.args._flight.now) _ c.requires.colours c.requires.present

pub returns-clause-black : goal.returns-clause-black
returns-clause-black g c =
    answers_own c.args.heap.now (g.F.Flight.bits c.args._flight.now) _ c.requires.colours c.requires.present _ _
    (none_flown _ (c.requires.covers c.args.place.0 ∙ ap is_some c.requires.kept)) c.mark_black.ensures

pub returns-clause-delayed : goal.returns-clause-delayed
returns-clause-delayed g c =
    taken_delayed c.args.heap.now c.args.place c.mark_black.result c.mark_black.new.self c.mark_black.ensures
