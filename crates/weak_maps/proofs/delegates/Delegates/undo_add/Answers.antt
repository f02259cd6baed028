use Rattle.std.proofs.Common.{sym, subst}
use Rattle.weak_maps.specs.Delegates.{AddsRow, DelegatesState, HasNewRow, place_of_zone, rows_of}
use Rattle.weak_maps.proofs.RowsKept.{AreRows-undone, AreSameRows-undone, popped}
use Rattle.weak_maps.proofs.delegates.Delegates.undo_add.Goals as goal

pub invariant_of-self : goal.invariant_of-self
invariant_of-self c =
    let state : DelegatesState = record {
      rows = rows_of c.self.inside.rows;
      by_target = c.self.inside.by_target;
      by_zone = c.self.inside.by_zone;
    } in
    let new : HasNewRow state = rw (← c.self.view_is) at c.requires in
    let same = popped c.self.inside.rows c.pop.new.self c.pop.result new.before.rows new.row c.pop.ensures.entries
    c.pop.ensures.len c.pop.ensures.found new.added.rows in
    AreRows-undone new.before state new.row (rows_of c.pop.new.self) c.undo_add.new.self c.undo_add-2.new.self new.sound
    new.added same (c.undo_add.ensures.undone new.before.by_target new.row.target new.added.target)
    c.undo_add.ensures.side
    (c.undo_add-2.ensures.undone new.before.by_zone (place_of_zone new.row.zone) new.added.zone)
    c.undo_add-2.ensures.side

pub returns-clause-sound : goal.returns-clause-sound
returns-clause-sound c =
    let state : DelegatesState = record {
      rows = rows_of c.self.inside.rows;
      by_target = c.self.inside.by_target;
      by_zone = c.self.inside.by_zone;
    } in
    let new : HasNewRow state = rw (← c.self.view_is) at c.requires in
    let same = popped c.self.inside.rows c.pop.new.self c.pop.result new.before.rows new.row c.pop.ensures.entries
    c.pop.ensures.len c.pop.ensures.found new.added.rows in
    AreRows-undone new.before state new.row (rows_of c.pop.new.self) c.undo_add.new.self c.undo_add-2.new.self new.sound
    new.added same (c.undo_add.ensures.undone new.before.by_target new.row.target new.added.target)
    c.undo_add.ensures.side
    (c.undo_add-2.ensures.undone new.before.by_zone (place_of_zone new.row.zone) new.added.zone)
    c.undo_add-2.ensures.side

pub returns-clause-undone : goal.returns-clause-undone
returns-clause-undone c = λ before row added.
    let now = subst (AddsRow before row) (sym c.self.view_is) added in
    let same = popped c.self.inside.rows c.pop.new.self c.pop.result before.rows row c.pop.ensures.entries
    c.pop.ensures.len c.pop.ensures.found now.rows in
    AreSameRows-undone before (rows_of c.pop.new.self) c.self.inside.by_target c.self.inside.by_zone
    c.undo_add.new.self c.undo_add-2.new.self same
    (c.undo_add.ensures.undone before.by_target row.target now.target)
    (c.undo_add-2.ensures.undone before.by_zone (place_of_zone row.zone) now.zone)
