use Rattle.std.proofs.Common.{arith, [], ap}
use Rattle.std.proofs.lemmas.Option.{slice_get_within}
use Rattle.weak_maps.specs.declared.colours.MarkColour.TheVariants as colour
use Rattle.weak_maps.specs.Listings.{ListingState}
use Rattle.weak_maps.proofs.Looks.{NoMoreLeft-set, NoMoreLeft-same}
use Rattle.weak_maps.proofs.Renaming.{last-seated, last-left, last-owners, last_found, last_inside, renamed-seated}
use Rattle.weak_maps.proofs.Renaming.{renamed-left, renamed-owners}
use Rattle.weak_maps.proofs.seats.take_number.Goals as goal

pub bounds-lists-seat : goal.bounds-lists-seat
bounds-lists-seat c =
    slice_get_within c.args.lists.now c.in-Some.seat.list _
    (last_found c.args.entry c.args.lists.now c.args.seats.now.items c.pop.new.self.items c.in-Some.seat
    c.requires.others c.in-Some.ensures.items (omega arith)
    (record { entries = []; left = 0; colour = colour.Black }))

pub put-requires : goal.put-requires
put-requires c =
    last_inside c.args.entry c.args.lists.now c.args.seats.now.items c.pop.new.self.items c.in-Some.seat
    c.requires.others c.in-Some.ensures.items (omega arith) c.index-lists-seat.result

pub returns-then-entry-len-clause-seated : goal.returns-then-entry-len-clause-seated
returns-then-entry-len-clause-seated c =
    renamed-seated c.args.entry c.args.lists.now c.args.seats.now.items c.pop.new.self.items c.in-Some.seat
    c.requires.others c.in-Some.ensures.items (omega arith) c.index-lists-seat.result c.put.new.self c.put.ensures

pub returns-then-entry-len-clause-left : goal.returns-then-entry-len-clause-left
returns-then-entry-len-clause-left c =
    renamed-left c.args.entry c.args.lists.now c.args.seats.now.items c.pop.new.self.items c.in-Some.seat
    c.requires.others c.in-Some.ensures.items (omega arith) c.index-lists-seat.result c.put.new.self c.put.ensures

pub returns-then-entry-len-clause-owners : goal.returns-then-entry-len-clause-owners
returns-then-entry-len-clause-owners c =
    renamed-owners c.args.entry c.args.lists.now c.args.seats.now.items c.pop.new.self.items c.in-Some.seat
    c.requires.others c.in-Some.ensures.items (omega arith) c.index-lists-seat.result c.put.new.self c.put.ensures

pub returns-else-entry-len-clause-seated : goal.returns-else-entry-len-clause-seated
returns-else-entry-len-clause-seated c =
    last-seated c.args.entry c.args.lists.now c.args.seats.now.items c.pop.new.self.items c.in-Some.seat
    c.requires.others c.in-Some.ensures.items (omega arith) c.requires.entry

pub returns-else-entry-len-clause-left : goal.returns-else-entry-len-clause-left
returns-else-entry-len-clause-left c =
    last-left c.args.entry c.args.lists.now c.args.seats.now.items c.pop.new.self.items c.in-Some.seat c.requires.others
    c.in-Some.ensures.items (omega arith) c.requires.entry

pub returns-else-entry-len-clause-owners : goal.returns-else-entry-len-clause-owners
returns-else-entry-len-clause-owners c =
    last-owners c.args.entry c.args.lists.now c.args.seats.now.items c.pop.new.self.items c.in-Some.seat
    c.requires.others c.in-Some.ensures.items (omega arith) c.requires.entry

pub returns-then-entry-len-clause-looks : goal.returns-then-entry-len-clause-looks
returns-then-entry-len-clause-looks c =
    NoMoreLeft-set c.args.lists.now c.in-Some.seat.list _ c.put.new.self
    (last_found c.args.entry c.args.lists.now c.args.seats.now.items c.pop.new.self.items c.in-Some.seat
    c.requires.others c.in-Some.ensures.items (omega arith) c.index-lists-seat.result)
    (let same = ap (λ (l : ListingState). l.left) c.put.ensures in omega (arith, same))
    (ap (λ (l : ListingState). l.colour) c.put.ensures)

pub returns-else-entry-len-clause-looks : goal.returns-else-entry-len-clause-looks
returns-else-entry-len-clause-looks c = NoMoreLeft-same c.args.lists.now
