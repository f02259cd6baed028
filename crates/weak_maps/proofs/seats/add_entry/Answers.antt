use Rattle.std.proofs.Common.{◌≡◌, List, arith, ap, ◌∙◌, ◌++◌, ◌∷◌, [], length}
use Rattle.std.proofs.lemmas.Option.{slice_get-get_or}
use Rattle.weak_maps.specs.Listings.{ListingState}
use Rattle.weak_maps.specs.declared.seats.Seat.{Seat}
use Rattle.weak_maps.proofs.Looks.{NoMoreLeft-set}
use Rattle.weak_maps.proofs.Adding.{added}
use Rattle.weak_maps.proofs.seats.add_entry.Goals as goal

pub returns-clause-seated : goal.returns-clause-seated
returns-clause-seated c =
    let x_is : c.len-entry.result ≡ length c.args.seats.now.items =
    (let same = ap length c.reserve.ensures.items in omega (arith, same)) in
    (added c.args.lists.now c.args.seats.now.items c.push_reserved.new.self.items c.args.list c.len-entry.result
    c.len-at.result c.index-lists-list.result c.push.new.self c.requires.seated c.requires.list x_is
    c.len-at.ensures c.in_ok-push.ensures.ok
    (c.push_reserved.ensures.items
    ∙ ap (λ (ss : List Seat). ss ++ record { list = c.args.list; at = c.len-at.result } ∷ [])
    c.reserve.ensures.items)).seated

pub returns-clause-left : goal.returns-clause-left
returns-clause-left c =
    let x_is : c.len-entry.result ≡ length c.args.seats.now.items =
    (let same = ap length c.reserve.ensures.items in omega (arith, same)) in
    (added c.args.lists.now c.args.seats.now.items c.push_reserved.new.self.items c.args.list c.len-entry.result
    c.len-at.result c.index-lists-list.result c.push.new.self c.requires.seated c.requires.list x_is
    c.len-at.ensures c.in_ok-push.ensures.ok
    (c.push_reserved.ensures.items
    ∙ ap (λ (ss : List Seat). ss ++ record { list = c.args.list; at = c.len-at.result } ∷ [])
    c.reserve.ensures.items)).left

pub returns-clause-looks : goal.returns-clause-looks
returns-clause-looks c =
    NoMoreLeft-set c.args.lists.now c.args.list _ c.push.new.self
    (slice_get-get_or c.args.lists.now c.args.list c.index-lists-list.result c.requires.list)
    (let same = ap (λ (l : ListingState). l.left) c.in_ok-push.ensures.ok in omega (arith, same))
    (ap (λ (l : ListingState). l.colour) c.in_ok-push.ensures.ok)

pub returns-clause-lists : goal.returns-clause-lists
returns-clause-lists c =
    let x_is : c.len-entry.result ≡ length c.args.seats.now.items =
    (let same = ap length c.reserve.ensures.items in omega (arith, same)) in
    (added c.args.lists.now c.args.seats.now.items c.push_reserved.new.self.items c.args.list c.len-entry.result
    c.len-at.result c.index-lists-list.result c.push.new.self c.requires.seated c.requires.list x_is
    c.len-at.ensures c.in_ok-push.ensures.ok
    (c.push_reserved.ensures.items
    ∙ ap (λ (ss : List Seat). ss ++ record { list = c.args.list; at = c.len-at.result } ∷ [])
    c.reserve.ensures.items)).lists_are
