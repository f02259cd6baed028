use Rattle.std.proofs.Common.{refl, arith, []}
use Rattle.std.proofs.lemmas.Option.{slice_get_within}
use Rattle.weak_maps.proofs.Queueing.{read_as}
use Rattle.weak_maps.proofs.Leaving.{has_left, has_stayed, its_found}
use Rattle.weak_maps.specs.declared.colours.MarkColour.TheVariants as colour
use Rattle.weak_maps.proofs.seats.leave_part.Goals as goal

pub bounds-lists-seat : goal.bounds-lists-seat
bounds-lists-seat c =
    let seat = c.index-seat.result.now in
    let at = read_as c.args.seats.now.items c.args.entry seat seat c.requires.entry c.index-seat.ensures refl in
    slice_get_within c.args.lists.now seat.list _
    (its_found c.args.lists.now c.args.seats.now.items c.requires.seated c.args.entry seat at
    (record { entries = []; left = 0; colour = colour.Black }))

pub returns-in-None : goal.returns-in-None
returns-in-None c =
    let seat = c.index-seat.result.now in
    let at = read_as c.args.seats.now.items c.args.entry seat seat c.requires.entry c.index-seat.ensures refl in
    let stayed = has_stayed c.args.lists.now c.args.seats.now.items c.requires.seated c.args.entry seat at
    c.index-lists-seat.result c.leave.new.self c.in-None.ensures.none in
    record { but = stayed.but; behind = stayed.behind; keeps = stayed.keeps; looks = stayed.looks }

pub index_mut-requires : goal.index_mut-requires
index_mut-requires c =
    let seat = c.index-seat.result.now in
    let at = read_as c.args.seats.now.items c.args.entry seat seat c.requires.entry c.index-seat.ensures refl in
    let made = (has_left c.args.lists.now c.args.seats.now.items c.requires.seated c.args.entry seat at
    c.index-lists-seat.result c.leave.new.self c.in-Some.moved c.in-Some.ensures.some).made in
    omega (arith, made)

pub returns-in-Some : goal.returns-in-Some
returns-in-Some c =
    let seat = c.index-seat.result.now in
    let at = read_as c.args.seats.now.items c.args.entry seat seat c.requires.entry c.index-seat.ensures refl in
    let left = has_left c.args.lists.now c.args.seats.now.items c.requires.seated c.args.entry seat at
    c.index-lists-seat.result c.leave.new.self c.in-Some.moved c.in-Some.ensures.some in
    rw c.left.ensures.left record { but = left.but; behind = left.behind; keeps = left.keeps; looks = left.looks }
