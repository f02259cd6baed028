use Rattle.std.proofs.Common.{arith, sym, ◌∙◌, ap}
use Rattle.std.proofs.lemmas.Option.{slice_get_within}
use Rattle.weak_maps.proofs.Seating.{entry_in-here}
use Rattle.weak_maps.specs.Listings.{ListingState}
use Rattle.weak_maps.proofs.Looks.{NoMoreLeft-set}
use Rattle.weak_maps.proofs.Filling.{fills-others, fills-keeps, ends-others, ends-keeps, reads, moved_stood}
use Rattle.weak_maps.proofs.seats.fill_hole.Goals as goal

pub bounds-lists-hole : goal.bounds-lists-hole
bounds-lists-hole c = slice_get_within c.args.lists.now c.args.hole.list c.requires.behind.listing
    c.requires.behind.found

pub remove-requires-clause-inside : goal.remove-requires-clause-inside
remove-requires-clause-inside c =
    (reads c.args.lists.now c.args.hole c.index-lists-hole.result c.requires.behind).inside

pub remove-requires-clause-behind : goal.remove-requires-clause-behind
remove-requires-clause-behind c =
    (reads c.args.lists.now c.args.hole c.index-lists-hole.result c.requires.behind).behind

pub index_mut-requires : goal.index_mut-requires
index_mut-requires c =
    let read = reads c.args.lists.now c.args.hole c.index-lists-hole.result c.requires.behind in
    let stood = moved_stood _ c.remove.new.self c.args.hole.at c.in-Some.moved c.remove.ensures.entries
    (sym c.in-Some.ensures.moved) in
    let less = c.requires.inside stood.0 c.in-Some.moved stood.1
    (entry_in-here c.args.lists.now c.args.hole.list stood.0 _ read.here ∙ stood.2) in
    omega (arith, less)

pub returns-in-Some-clause-others : goal.returns-in-Some-clause-others
returns-in-Some-clause-others c = λ x but.
    let read = reads c.args.lists.now c.args.hole c.index-lists-hole.result c.requires.behind in
    fills-others x c.args.hole c.args.lists.now c.args.seats.now.items but _ c.remove.new.self read.here read.inside
    read.behind c.remove.ensures.entries c.in-Some.moved (sym c.in-Some.ensures.moved)

pub returns-in-Some-clause-keeps : goal.returns-in-Some-clause-keeps
returns-in-Some-clause-keeps c = λ x but.
    let read = reads c.args.lists.now c.args.hole c.index-lists-hole.result c.requires.behind in
    fills-keeps x c.args.hole c.args.lists.now c.args.seats.now.items but _ c.remove.new.self read.here read.inside
    read.behind c.remove.ensures.entries c.in-Some.moved (sym c.in-Some.ensures.moved)

pub returns-in_default-clause-others : goal.returns-in_default-clause-others
returns-in_default-clause-others c = λ x but.
    let read = reads c.args.lists.now c.args.hole c.index-lists-hole.result c.requires.behind in
    ends-others x c.args.hole c.args.lists.now c.args.seats.now.items but _ c.remove.new.self read.here read.inside
    read.behind c.remove.ensures.entries (sym c.remove.ensures.moved ∙ c.in_default.is)

pub returns-in_default-clause-keeps : goal.returns-in_default-clause-keeps
returns-in_default-clause-keeps c = λ x but.
    let read = reads c.args.lists.now c.args.hole c.index-lists-hole.result c.requires.behind in
    ends-keeps x c.args.hole c.args.lists.now c.args.seats.now.items but _ c.remove.new.self read.here read.inside
    read.behind c.remove.ensures.entries (sym c.remove.ensures.moved ∙ c.in_default.is)

pub returns-in-Some-clause-looks : goal.returns-in-Some-clause-looks
returns-in-Some-clause-looks c =
    NoMoreLeft-set c.args.lists.now c.args.hole.list _ c.remove.new.self
    (reads c.args.lists.now c.args.hole c.index-lists-hole.result c.requires.behind).here
    (let same = ap (λ (l : ListingState). l.left) c.remove.ensures.entries in omega (arith, same))
    (ap (λ (l : ListingState). l.colour) c.remove.ensures.entries)

pub returns-in_default-clause-looks : goal.returns-in_default-clause-looks
returns-in_default-clause-looks c =
    NoMoreLeft-set c.args.lists.now c.args.hole.list _ c.remove.new.self
    (reads c.args.lists.now c.args.hole c.index-lists-hole.result c.requires.behind).here
    (let same = ap (λ (l : ListingState). l.left) c.remove.ensures.entries in omega (arith, same))
    (ap (λ (l : ListingState). l.colour) c.remove.ensures.entries)
