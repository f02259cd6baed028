use Rattle.std.proofs.Common.{[]}
use Rattle.std.proofs.lemmas.Option.{slice_get_within}
use Rattle.weak_maps.specs.declared.colours.MarkColour.TheVariants as colour
use Rattle.weak_maps.proofs.Undoing.{list_found, its_end, inside_list, gone-seated, gone-left, gone-looks, gone-lists}
use Rattle.weak_maps.proofs.seats.undo_add.Goals as goal

pub bounds-lists-seat : goal.bounds-lists-seat
bounds-lists-seat c =
    slice_get_within c.args.lists.now c.in-Some.seat.list _
    (list_found c.args.lists.now c.args.seats.now.items c.pop.new.self.items c.in-Some.seat c.requires.seated
    c.requires.end c.in-Some.ensures.items (record { entries = []; left = 0; colour = colour.Black }))

pub remove-requires-clause-inside : goal.remove-requires-clause-inside
remove-requires-clause-inside c = inside_list c.args.lists.now c.args.seats.now.items c.pop.new.self.items
    c.in-Some.seat c.requires.seated c.requires.end c.in-Some.ensures.items c.index-lists-seat.result

pub remove-requires-clause-behind : goal.remove-requires-clause-behind
remove-requires-clause-behind c =
    (its_end c.args.lists.now c.args.seats.now.items c.pop.new.self.items c.in-Some.seat c.requires.seated
    c.requires.end c.in-Some.ensures.items c.index-lists-seat.result).1

pub returns-in-Some-clause-seated : goal.returns-in-Some-clause-seated
returns-in-Some-clause-seated c = gone-seated c.args.lists.now c.args.seats.now.items c.pop.new.self.items
    c.in-Some.seat c.requires.seated c.requires.end c.in-Some.ensures.items c.index-lists-seat.result c.remove.new.self
    c.remove.ensures.entries

pub returns-in-Some-clause-left : goal.returns-in-Some-clause-left
returns-in-Some-clause-left c = gone-left c.args.lists.now c.args.seats.now.items c.pop.new.self.items c.in-Some.seat
    c.requires.seated c.requires.end c.in-Some.ensures.items c.index-lists-seat.result c.remove.new.self
    c.remove.ensures.entries

pub returns-in-Some-clause-looks : goal.returns-in-Some-clause-looks
returns-in-Some-clause-looks c = gone-looks c.args.lists.now c.args.seats.now.items c.pop.new.self.items c.in-Some.seat
    c.requires.seated c.requires.end c.in-Some.ensures.items c.index-lists-seat.result c.remove.new.self
    c.remove.ensures.entries

pub returns-in-Some-clause-lists : goal.returns-in-Some-clause-lists
returns-in-Some-clause-lists c = gone-lists c.args.lists.now c.args.seats.now.items c.pop.new.self.items c.in-Some.seat
    c.requires.seated c.requires.end c.in-Some.ensures.items c.index-lists-seat.result c.remove.new.self
    c.remove.ensures.entries
