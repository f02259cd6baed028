use Rattle.std.proofs.Common.{◌≡◌, ◌++◌, ◌∙◌, None, ap, sym}
use Rattle.std.proofs.lemmas.Result.{on_ok_weaker}
use Rattle.slice_driver.proofs.taking_in.FirstOut.{is_none}
use Rattle.slice_driver.proofs.group_end.GraySlots.{own_colour, own_grays}
use Rattle.slice_driver.proofs.colours.push_gray.Goals as goal

pub push_own_gray-requires-clause-present : goal.push_own_gray-requires-clause-present
push_own_gray-requires-clause-present g c =
    let flown = g.F.Flight.bits c.args.flight.now in
    let none : flown c.args.arena ≡ None = is_none _ (c.requires.covers c.args.arena
    ∙ (sym c.is_out.ensures ∙ c.if-is_out.false)) in
    λ slot gray. c.requires.present (c.args.arena, slot) (own_colour c.args.heap.now flown c.args.arena slot none
    ∙ gray)

pub returns-else-is_out-clause-names : goal.returns-else-is_out-clause-names
returns-else-is_out-clause-names g c =
    let flown = g.F.Flight.bits c.args.flight.now in
    let none : flown c.args.arena ≡ None = is_none _ (c.requires.covers c.args.arena
    ∙ (sym c.is_out.ensures ∙ c.if-is_out.false)) in
    on_ok_weaker c.push_own_gray.result (λ e. e ∙ ap (λ (xs : _). c.args.names.now.items ++ xs)
    (sym (own_grays c.args.heap.now flown c.args.arena 64 none))) c.push_own_gray.ensures
