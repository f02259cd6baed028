use Rattle.std.proofs.Common.{◌≡◌, arith, length, refl}
use Rattle.weak_maps.proofs.Adding.{added_first}
use Rattle.weak_maps.proofs.seats.add_first.Goals as goal

pub returns-clause-seated : goal.returns-clause-seated
returns-clause-seated c =
    let j_is : c.len-list.result ≡ length c.args.lists.now.items = omega arith in
    (added_first c.args.lists.now.items c.push_reserved.new.self.items c.args.seats.now.items
    c.push_reserved-2.new.self.items c.len-list.result (length c.args.seats.now.items) c.args.listing
    c.requires.seated j_is refl c.requires.only c.requires.none c.push_reserved.ensures.items
    c.push_reserved-2.ensures.items).0.seated

pub returns-clause-left : goal.returns-clause-left
returns-clause-left c =
    let j_is : c.len-list.result ≡ length c.args.lists.now.items = omega arith in
    (added_first c.args.lists.now.items c.push_reserved.new.self.items c.args.seats.now.items
    c.push_reserved-2.new.self.items c.len-list.result (length c.args.seats.now.items) c.args.listing
    c.requires.seated j_is refl c.requires.only c.requires.none c.push_reserved.ensures.items
    c.push_reserved-2.ensures.items).0.left

pub returns-clause-owners : goal.returns-clause-owners
returns-clause-owners c =
    let j_is : c.len-list.result ≡ length c.args.lists.now.items = omega arith in
    (added_first c.args.lists.now.items c.push_reserved.new.self.items c.args.seats.now.items
    c.push_reserved-2.new.self.items c.len-list.result (length c.args.seats.now.items) c.args.listing
    c.requires.seated j_is refl c.requires.only c.requires.none c.push_reserved.ensures.items
    c.push_reserved-2.ensures.items).0.owners

pub returns-clause-looks : goal.returns-clause-looks
returns-clause-looks c =
    let j_is : c.len-list.result ≡ length c.args.lists.now.items = omega arith in
    (added_first c.args.lists.now.items c.push_reserved.new.self.items c.args.seats.now.items
    c.push_reserved-2.new.self.items c.len-list.result (length c.args.seats.now.items) c.args.listing
    c.requires.seated j_is refl c.requires.only c.requires.none c.push_reserved.ensures.items
    c.push_reserved-2.ensures.items).1

pub returns-clause-lists : goal.returns-clause-lists
returns-clause-lists c =
    let j_is : c.len-list.result ≡ length c.args.lists.now.items = omega arith in
    (added_first c.args.lists.now.items c.push_reserved.new.self.items c.args.seats.now.items
    c.push_reserved-2.new.self.items c.len-list.result (length c.args.seats.now.items) c.args.listing
    c.requires.seated j_is refl c.requires.only c.requires.none c.push_reserved.ensures.items
    c.push_reserved-2.ensures.items).0.lists_are
