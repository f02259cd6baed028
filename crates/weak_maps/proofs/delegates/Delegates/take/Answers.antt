use Rattle.std.proofs.Common.{◌∙◌, slice_get, sym, ap}
use Rattle.std.proofs.lemmas.Option.{IfSome_then, same_Some, slice_get_within}
use Rattle.weak_maps.specs.Delegates.{key_of_row, rows_of}
use Rattle.weak_maps.proofs.Rows.{TakesRow-none, TakesRow-taken, rows_apart, taken_row, target_at, target_in}
use Rattle.weak_maps.proofs.RowsKept.{AreRows-taken, row_position}
use Rattle.weak_maps.proofs.Taking.{none_from}
use Rattle.weak_maps.proofs.Tying.{left_stays}
use Rattle.weak_maps.proofs.delegates.Delegates.take.Goals as goal

pub invariant_of-self : goal.invariant_of-self
invariant_of-self c =
    let now = c.swap_remove_index.ensures in
    let at = row_position c.self.inside.rows c.args.key c.in-Some.row c.in-Some.ensures.index in
    let less = slice_get_within (rows_of c.self.inside.rows) c.in-Some.row at.0 at.1 in
    let took = taken_row c.self.inside.rows c.swap_remove_index.new.self c.in-Some.row c.swap_remove_index.result
    now.entry now.entries (IfSome_then c.swap_remove_index.result now.updates (λ p u. u.0)) less in
    AreRows-taken (rows_of c.self.inside.rows) (rows_of c.swap_remove_index.new.self) c.self.inside.by_target
    c.self.inside.by_zone c.take.new.self c.take-in-Some.new.self c.in-Some.row took.row c.self.invariant less took.rows
    (rows_apart c.swap_remove_index.new.self now.unique) c.take.ensures.heads c.take.ensures.owners c.take.ensures.side
    c.take-in-Some.ensures.heads c.take-in-Some.ensures.owners c.take-in-Some.ensures.side

pub returns-in-Some-clause-sound : goal.returns-in-Some-clause-sound
returns-in-Some-clause-sound c =
    let now = c.swap_remove_index.ensures in
    let at = row_position c.self.inside.rows c.args.key c.in-Some.row c.in-Some.ensures.index in
    let less = slice_get_within (rows_of c.self.inside.rows) c.in-Some.row at.0 at.1 in
    let took = taken_row c.self.inside.rows c.swap_remove_index.new.self c.in-Some.row c.swap_remove_index.result
    now.entry now.entries (IfSome_then c.swap_remove_index.result now.updates (λ p u. u.0)) less in
    AreRows-taken (rows_of c.self.inside.rows) (rows_of c.swap_remove_index.new.self) c.self.inside.by_target
    c.self.inside.by_zone c.take.new.self c.take-in-Some.new.self c.in-Some.row took.row c.self.invariant less took.rows
    (rows_apart c.swap_remove_index.new.self now.unique) c.take.ensures.heads c.take.ensures.owners c.take.ensures.side
    c.take-in-Some.ensures.heads c.take-in-Some.ensures.owners c.take-in-Some.ensures.side

pub returns-in-Some-clause-taken : goal.returns-in-Some-clause-taken
returns-in-Some-clause-taken c =
    let now = c.swap_remove_index.ensures in
    let at = row_position c.self.inside.rows c.args.key c.in-Some.row c.in-Some.ensures.index in
    let less = slice_get_within (rows_of c.self.inside.rows) c.in-Some.row at.0 at.1 in
    let took = taken_row c.self.inside.rows c.swap_remove_index.new.self c.in-Some.row c.swap_remove_index.result
    now.entry now.entries (IfSome_then c.swap_remove_index.result now.updates (λ p u. u.0)) less in
    rw (← c.self.view_is)
    (TakesRow-taken (rows_of c.self.inside.rows) (rows_of c.swap_remove_index.new.self) c.in-Some.row took.row
    c.args.key c.self.invariant.distinct (rows_apart c.swap_remove_index.new.self now.unique) took.there
    (ap key_of_row (same_Some _ _ (sym took.there ∙ at.1)) ∙ at.2) took.rows took.found)

pub returns-in-Some-clause-carries : goal.returns-in-Some-clause-carries
returns-in-Some-clause-carries c =
    let now = c.swap_remove_index.ensures in
    let at = row_position c.self.inside.rows c.args.key c.in-Some.row c.in-Some.ensures.index in
    let less = slice_get_within (rows_of c.self.inside.rows) c.in-Some.row at.0 at.1 in
    let took = taken_row c.self.inside.rows c.swap_remove_index.new.self c.in-Some.row c.swap_remove_index.result
    now.entry now.entries (IfSome_then c.swap_remove_index.result now.updates (λ p u. u.0)) less in
    rw (← c.self.view_is) (λ i row there.
    left_stays (λ row. row.target) (rows_of c.self.inside.rows) c.self.inside.by_target c.take.new.self c.in-Some.row
    took.row c.self.invariant.targets less c.take.ensures.left i row
    (ap (λ rs. slice_get rs i) (sym took.rows) ∙ there))

pub returns-in_default-clause-taken : goal.returns-in_default-clause-taken
returns-in_default-clause-taken c =
    rw (← c.self.view_is)
    (TakesRow-none (rows_of c.self.inside.rows) c.args.key c.self.invariant.distinct
    (target_at c.self.inside.rows c.args.key.map c.args.key.key
    ∙ ap target_in (none_from _ c.in_default.ensures.found)))
