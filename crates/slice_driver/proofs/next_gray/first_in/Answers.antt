use Rattle.std.proofs.Common.{◌≡◌, ◌∙◌, None, sym, subst}
use Rattle.slice_driver.specs.NextGray.{Picks}
use Rattle.slice_driver.proofs.taking_in.FirstOut.{is_none}
use Rattle.slice_driver.proofs.group_end.GraySlots.{own_colour, own_grays}
use Rattle.slice_driver.proofs.next_gray.first_in.Goals as goal

pub first_own-requires-clause-present : goal.first_own-requires-clause-present
first_own-requires-clause-present g c =
    let flown = g.F.Flight.bits c.args.flight.now in
    let none : flown c.args.arena ≡ None = is_none _ (c.requires.covers c.args.arena
    ∙ (sym c.is_out.ensures ∙ c.if-is_out.false)) in
    λ slot gray. c.requires.present (c.args.arena, slot) (own_colour c.args.heap.now flown c.args.arena slot none
    ∙ gray)

pub returns-else-is_out-clause-picks : goal.returns-else-is_out-clause-picks
returns-else-is_out-clause-picks g c =
    let flown = g.F.Flight.bits c.args.flight.now in
    let none : flown c.args.arena ≡ None = is_none _ (c.requires.covers c.args.arena
    ∙ (sym c.is_out.ensures ∙ c.if-is_out.false)) in
    subst (λ xs. Picks c.args.after c.args.first xs c.first_own.result)
    (sym (own_grays c.args.heap.now flown c.args.arena 64 none)) c.first_own.ensures
