use Rattle.std.proofs.Common.{sym, ◌∙◌, arith, refl}
use Rattle.weak_maps.proofs.Queueing.{read_as}
use Rattle.weak_maps.proofs.Siding.{IsSide-sound}
use Rattle.weak_maps.proofs.Starting.{Starts-none, started-starts, started-black, started-gray, started-state}
use Rattle.weak_maps.proofs.sides.Side.start.Goals as goal

pub returns-in_default-clause-side : goal.returns-in_default-clause-side
returns-in_default-clause-side c =
    rw (← c.self.view_is)
    (IsSide-sound c.self.inside.heads c.self.inside.lists.items c.self.inside.seats.items c.self.inside.black
    c.self.inside.gray c.self.invariant)

pub index_mut-listing-requires : goal.index_mut-listing-requires
index_mut-listing-requires c =
    let found = sym c.in-Some.ensures in
    let less = c.self.invariant.heads_are.within c.args.place c.in-Some.list found in
    omega (arith, less)

pub add-requires : goal.add-requires
add-requires c =
    let found = sym c.in-Some.ensures in
    let less = c.self.invariant.heads_are.within c.args.place c.in-Some.list found in
    let here = read_as c.self.inside.lists.items c.in-Some.list c.index_mut-listing.result.now
    c.index_mut-listing.result.now less c.index_mut-listing.ensures.value refl in
    let room = c.self.invariant.black_waits.room in
    omega (arith, less, room)

pub invariant_of-self : goal.invariant_of-self
invariant_of-self c =
    let found = sym c.in-Some.ensures in
    let less = c.self.invariant.heads_are.within c.args.place c.in-Some.list found in
    let here = read_as c.self.inside.lists.items c.in-Some.list c.index_mut-listing.result.now
    c.index_mut-listing.result.now less c.index_mut-listing.ensures.value refl in
    (started-black c.self.inside.lists.items c.self.inside.seats.items c.self.invariant.seated c.in-Some.list
    c.index_mut-listing.result.now c.start.new.self here c.args.colour c.start.ensures c.self.inside.heads
    c.self.inside.black c.self.inside.gray c.self.invariant (sym c.in-Black.ensures) c.add.new.self
    c.add.ensures.waiting c.add.ensures.room)

pub returns-in-Black-clause-rest : goal.returns-in-Black-clause-rest
returns-in-Black-clause-rest c =
    let found = sym c.in-Some.ensures in
    let less = c.self.invariant.heads_are.within c.args.place c.in-Some.list found in
    let here = read_as c.self.inside.lists.items c.in-Some.list c.index_mut-listing.result.now
    c.index_mut-listing.result.now less c.index_mut-listing.ensures.value refl in
    rw (← c.self.view_is)
    (started-state c.self.inside.lists.items c.self.inside.seats.items c.self.invariant.seated c.in-Some.list
    c.index_mut-listing.result.now c.start.new.self here c.args.colour c.start.ensures c.self.inside.heads
    c.self.inside.black c.self.inside.gray c.self.invariant)

pub returns-in-Black-clause-left : goal.returns-in-Black-clause-left
returns-in-Black-clause-left c =
    let found = sym c.in-Some.ensures in
    let less = c.self.invariant.heads_are.within c.args.place c.in-Some.list found in
    let here = read_as c.self.inside.lists.items c.in-Some.list c.index_mut-listing.result.now
    c.index_mut-listing.result.now less c.index_mut-listing.ensures.value refl in
    rw (← c.self.view_is, found)
    (started-starts c.self.inside.lists.items c.self.inside.seats.items c.self.invariant.seated c.in-Some.list
    c.index_mut-listing.result.now c.start.new.self here c.args.colour c.start.ensures)

pub returns-in-Black-clause-side : goal.returns-in-Black-clause-side
returns-in-Black-clause-side c =
    let found = sym c.in-Some.ensures in
    let less = c.self.invariant.heads_are.within c.args.place c.in-Some.list found in
    let here = read_as c.self.inside.lists.items c.in-Some.list c.index_mut-listing.result.now
    c.index_mut-listing.result.now less c.index_mut-listing.ensures.value refl in
    IsSide-sound c.self.inside.heads _ c.self.inside.seats.items c.add.new.self c.self.inside.gray
    (started-black c.self.inside.lists.items c.self.inside.seats.items c.self.invariant.seated c.in-Some.list
    c.index_mut-listing.result.now c.start.new.self here c.args.colour c.start.ensures c.self.inside.heads
    c.self.inside.black c.self.inside.gray c.self.invariant (sym c.in-Black.ensures) c.add.new.self
    c.add.ensures.waiting c.add.ensures.room)

pub add-requires-in-Gray : goal.add-requires-in-Gray
add-requires-in-Gray c =
    let found = sym c.in-Some.ensures in
    let less = c.self.invariant.heads_are.within c.args.place c.in-Some.list found in
    let here = read_as c.self.inside.lists.items c.in-Some.list c.index_mut-listing.result.now
    c.index_mut-listing.result.now less c.index_mut-listing.ensures.value refl in
    let room = c.self.invariant.gray_waits.room in
    omega (arith, less, room)

pub invariant_of-self-in-Gray : goal.invariant_of-self-in-Gray
invariant_of-self-in-Gray c =
    let found = sym c.in-Some.ensures in
    let less = c.self.invariant.heads_are.within c.args.place c.in-Some.list found in
    let here = read_as c.self.inside.lists.items c.in-Some.list c.index_mut-listing.result.now
    c.index_mut-listing.result.now less c.index_mut-listing.ensures.value refl in
    (started-gray c.self.inside.lists.items c.self.inside.seats.items c.self.invariant.seated c.in-Some.list
    c.index_mut-listing.result.now c.start.new.self here c.args.colour c.start.ensures c.self.inside.heads
    c.self.inside.black c.self.inside.gray c.self.invariant (sym c.in-Gray.ensures) c.add-in-Gray.new.self
    c.add-in-Gray.ensures.waiting c.add-in-Gray.ensures.room)

pub returns-in-Gray-clause-rest : goal.returns-in-Gray-clause-rest
returns-in-Gray-clause-rest c =
    let found = sym c.in-Some.ensures in
    let less = c.self.invariant.heads_are.within c.args.place c.in-Some.list found in
    let here = read_as c.self.inside.lists.items c.in-Some.list c.index_mut-listing.result.now
    c.index_mut-listing.result.now less c.index_mut-listing.ensures.value refl in
    rw (← c.self.view_is)
    (started-state c.self.inside.lists.items c.self.inside.seats.items c.self.invariant.seated c.in-Some.list
    c.index_mut-listing.result.now c.start.new.self here c.args.colour c.start.ensures c.self.inside.heads
    c.self.inside.black c.self.inside.gray c.self.invariant)

pub returns-in-Gray-clause-left : goal.returns-in-Gray-clause-left
returns-in-Gray-clause-left c =
    let found = sym c.in-Some.ensures in
    let less = c.self.invariant.heads_are.within c.args.place c.in-Some.list found in
    let here = read_as c.self.inside.lists.items c.in-Some.list c.index_mut-listing.result.now
    c.index_mut-listing.result.now less c.index_mut-listing.ensures.value refl in
    rw (← c.self.view_is, found)
    (started-starts c.self.inside.lists.items c.self.inside.seats.items c.self.invariant.seated c.in-Some.list
    c.index_mut-listing.result.now c.start.new.self here c.args.colour c.start.ensures)

pub returns-in-Gray-clause-side : goal.returns-in-Gray-clause-side
returns-in-Gray-clause-side c =
    let found = sym c.in-Some.ensures in
    let less = c.self.invariant.heads_are.within c.args.place c.in-Some.list found in
    let here = read_as c.self.inside.lists.items c.in-Some.list c.index_mut-listing.result.now
    c.index_mut-listing.result.now less c.index_mut-listing.ensures.value refl in
    IsSide-sound c.self.inside.heads _ c.self.inside.seats.items c.self.inside.black c.add-in-Gray.new.self
    (started-gray c.self.inside.lists.items c.self.inside.seats.items c.self.invariant.seated c.in-Some.list
    c.index_mut-listing.result.now c.start.new.self here c.args.colour c.start.ensures c.self.inside.heads
    c.self.inside.black c.self.inside.gray c.self.invariant (sym c.in-Gray.ensures) c.add-in-Gray.new.self
    c.add-in-Gray.ensures.waiting c.add-in-Gray.ensures.room)

pub returns-in_default-clause-left : goal.returns-in_default-clause-left
returns-in_default-clause-left c =
    let none = sym c.get.ensures ∙ c.in_default.is in
    rw (← c.self.view_is, none) (Starts-none c.args.colour _ _)
