use Rattle.std.proofs.Common.{◌∙◌}
use Rattle.std.proofs.lemmas.Option.{slice_get_within}
use Rattle.weak_maps.proofs.Looks.{NoMoreLeft-trans}
use Rattle.weak_maps.proofs.Renaming.{kept_left, kept_owners, kept_length}
use Rattle.weak_maps.proofs.seats.take_entry.Goals as goal

pub fill_hole-requires-clause-inside : goal.fill_hole-requires-clause-inside
fill_hole-requires-clause-inside c = λ i y other at.
    slice_get_within c.leave_part-hole.new.seats.items y _
    (c.leave_part-hole.ensures.but.seated c.leave_part-hole.result.list i y (λ _. other) at).0

pub take_number-requires-clause-others : goal.take_number-requires-clause-others
take_number-requires-clause-others c = c.fill_hole.ensures.others c.args.entry c.leave_part-hole.ensures.but

pub take_number-requires-clause-entry : goal.take_number-requires-clause-entry
take_number-requires-clause-entry c =
    let first = kept_length c.args.entry c.args.lists.now c.leave_part-hole.new.lists c.args.seats.now.items
    c.leave_part-hole.new.seats.items c.leave_part-hole.ensures.keeps c.requires.entry in
    kept_length c.args.entry c.leave_part-hole.new.lists c.fill_hole.new.lists c.leave_part-hole.new.seats.items
    c.fill_hole.new.seats.items (c.fill_hole.ensures.keeps c.args.entry c.leave_part-hole.ensures.but) first

pub returns-clause-left : goal.returns-clause-left
returns-clause-left c =
    c.take_number.ensures.left
    ∙ (kept_left c.args.entry c.leave_part-hole.new.lists c.fill_hole.new.lists c.leave_part-hole.new.seats.items
    c.fill_hole.new.seats.items (c.fill_hole.ensures.keeps c.args.entry c.leave_part-hole.ensures.but)
    ∙ kept_left c.args.entry c.args.lists.now c.leave_part-hole.new.lists c.args.seats.now.items
    c.leave_part-hole.new.seats.items c.leave_part-hole.ensures.keeps)

pub returns-clause-owners : goal.returns-clause-owners
returns-clause-owners c =
    c.take_number.ensures.owners
    ∙ (kept_owners c.args.entry c.leave_part-hole.new.lists c.fill_hole.new.lists c.leave_part-hole.new.seats.items
    c.fill_hole.new.seats.items (c.fill_hole.ensures.keeps c.args.entry c.leave_part-hole.ensures.but)
    ∙ kept_owners c.args.entry c.args.lists.now c.leave_part-hole.new.lists c.args.seats.now.items
    c.leave_part-hole.new.seats.items c.leave_part-hole.ensures.keeps)

pub returns-clause-looks : goal.returns-clause-looks
returns-clause-looks c =
    NoMoreLeft-trans c.args.lists.now c.leave_part-hole.new.lists c.take_number.new.lists
    c.leave_part-hole.ensures.looks
    (NoMoreLeft-trans c.leave_part-hole.new.lists c.fill_hole.new.lists c.take_number.new.lists
    c.fill_hole.ensures.looks c.take_number.ensures.looks)
