use Rattle.std.proofs.Common.{◌≡◌, ◌<◌, None, length, map, ap, subst, arith}
use Rattle.std.proofs.lemmas.List.{length-map}
use Rattle.weak_maps.specs.Sides.{IsAdded}
use Rattle.weak_maps.specs.Delegates.{delegate_at, row_of, rows_of}
use Rattle.weak_maps.proofs.Rows.{rows_apart, rows_inserted, seen_row}
use Rattle.weak_maps.proofs.RowsKept.{AreRows-added, AreRows-back}
use Rattle.weak_maps.proofs.delegates.Delegates.add.Goals as goal

pub invariant_of-self-in-Ok : goal.invariant_of-self-in-Ok
invariant_of-self-in-Ok c =
    let none : delegate_at (rows_of c.self.inside.rows) c.args.key.map c.args.key.key ≡ None =
    rw (← c.self.view_is) at c.requires.absent in
    let fresh = c.in_ok-enter-in-Ok.ensures in
    let pushed = rows_inserted c.self.inside.rows c.reserve.new.self c.enter.new.rows c.args.key c.args.delegate
    c.in_ok-reserve.ensures.entries none fresh.ok in
    let few : length (rows_of c.self.inside.rows) < 4294967295 =
    (let len = length-map c.self.inside.rows.entries seen_row in let count = c.len.ensures.len in let low =
    c.if-len.false in omega (arith, len, count, low)) in
    AreRows-added (rows_of c.self.inside.rows) (rows_of c.enter.new.rows) c.self.inside.by_target
    c.self.inside.by_zone c.add.new.self c.add-2.new.self (row_of c.args.key c.args.delegate) c.self.invariant pushed
    (rows_apart c.enter.new.rows fresh.unique) few c.in_ok-add.ensures.added c.in_ok-add.ensures.side
    (subst (λ p. IsAdded c.self.inside.by_zone p c.add-2.new.self) c.place_of.ensures c.in-Ok.ensures.added)
    c.in-Ok.ensures.side

pub returns-in_ok-enter-in-Ok-clause-sound : goal.returns-in_ok-enter-in-Ok-clause-sound
returns-in_ok-enter-in-Ok-clause-sound c =
    let none : delegate_at (rows_of c.self.inside.rows) c.args.key.map c.args.key.key ≡ None =
    rw (← c.self.view_is) at c.requires.absent in
    let fresh = c.in_ok-enter-in-Ok.ensures in
    let pushed = rows_inserted c.self.inside.rows c.reserve.new.self c.enter.new.rows c.args.key c.args.delegate
    c.in_ok-reserve.ensures.entries none fresh.ok in
    let few : length (rows_of c.self.inside.rows) < 4294967295 =
    (let len = length-map c.self.inside.rows.entries seen_row in let count = c.len.ensures.len in let low =
    c.if-len.false in omega (arith, len, count, low)) in
    AreRows-added (rows_of c.self.inside.rows) (rows_of c.enter.new.rows) c.self.inside.by_target
    c.self.inside.by_zone c.add.new.self c.add-2.new.self (row_of c.args.key c.args.delegate) c.self.invariant pushed
    (rows_apart c.enter.new.rows fresh.unique) few c.in_ok-add.ensures.added c.in_ok-add.ensures.side
    (subst (λ p. IsAdded c.self.inside.by_zone p c.add-2.new.self) c.place_of.ensures c.in-Ok.ensures.added)
    c.in-Ok.ensures.side

pub returns-in_ok-enter-in-Ok-clause-added : goal.returns-in_ok-enter-in-Ok-clause-added
returns-in_ok-enter-in-Ok-clause-added c =
    let none : delegate_at (rows_of c.self.inside.rows) c.args.key.map c.args.key.key ≡ None =
    rw (← c.self.view_is) at c.requires.absent in
    let fresh = c.in_ok-enter-in-Ok.ensures in
    rw (← c.self.view_is) record {
      rows = rows_inserted c.self.inside.rows c.reserve.new.self c.enter.new.rows c.args.key c.args.delegate
          c.in_ok-reserve.ensures.entries none fresh.ok;
      target = c.in_ok-add.ensures.added;
      zone = subst (λ p. IsAdded c.self.inside.by_zone p c.add-2.new.self) c.place_of.ensures c.in-Ok.ensures.added;
    }

pub invariant_of-self-in-Err : goal.invariant_of-self-in-Err
invariant_of-self-in-Err c =
    let undone = c.undo_add.ensures.undone c.self.inside.by_target c.args.delegate.target c.in_ok-add.ensures.added in
    rw (ap (map seen_row) c.in_ok-reserve.ensures.entries, c.in-Err.ensures.err)
    (AreRows-back (rows_of c.self.inside.rows) c.self.inside.by_target c.self.inside.by_zone c.add.new.self
    c.undo_add.new.self c.args.delegate.target c.self.invariant c.in_ok-add.ensures.added undone
    c.undo_add.ensures.side)

pub returns-in-Err-clause-sound : goal.returns-in-Err-clause-sound
returns-in-Err-clause-sound c =
    let undone = c.undo_add.ensures.undone c.self.inside.by_target c.args.delegate.target c.in_ok-add.ensures.added in
    rw (ap (map seen_row) c.in_ok-reserve.ensures.entries, c.in-Err.ensures.err)
    (AreRows-back (rows_of c.self.inside.rows) c.self.inside.by_target c.self.inside.by_zone c.add.new.self
    c.undo_add.new.self c.args.delegate.target c.self.invariant c.in_ok-add.ensures.added undone
    c.undo_add.ensures.side)
