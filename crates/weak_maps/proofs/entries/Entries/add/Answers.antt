use Rattle.std.proofs.Common.{◌≡◌, ◌∙◌, ◌<◌, None, length, ap, arith}
use Rattle.std.proofs.lemmas.List.{length-map}
use Rattle.weak_maps.specs.Tables.{entries_of}
use Rattle.weak_maps.specs.Entries.{AreTied, value_at}
use Rattle.weak_maps.proofs.Sound.{AreEntries-from_tied}
use Rattle.weak_maps.proofs.Table.{seen_entry, entries_of-same, put_at-inserted, put_at-new, value_at-put_at}
use Rattle.weak_maps.proofs.Table.{AreDistinct-entries}
use Rattle.weak_maps.proofs.Tying.{AreParallel-tied, AreTied-added, AreTied-undone, state-undone}
use Rattle.weak_maps.proofs.entries.Entries.add.Goals as goal

pub invariant_of-self-in-Ok : goal.invariant_of-self-in-Ok
invariant_of-self-in-Ok c =
    let none : value_at (entries_of c.self.inside.table) c.args.entry.now.map c.args.entry.now.key ≡ None =
    rw (← c.self.view_is) at c.requires.absent in
    let fresh = c.in_ok-enter-in-Ok.ensures in
    let put = put_at-inserted c.self.inside.table c.reserve.new.self c.enter.new.table c.args.entry.now.map
    c.args.entry.now.key c.args.entry.now.value c.in_ok-reserve.ensures.entries none fresh.ok in
    let pushed = put ∙ put_at-new (entries_of c.self.inside.table) c.args.entry.now.map c.args.entry.now.key
    c.args.entry.now.value none in
    let few : length (entries_of c.self.inside.table) < 4294967295 =
    (let len = length-map c.self.inside.table.entries seen_entry in let count = c.len.ensures.len in let low =
    c.if-len.false in omega (arith, len, count, low)) in
    (AreTied-added (entries_of c.self.inside.table) (entries_of c.enter.new.table) c.self.inside.by_map
    c.self.inside.by_key c.add.new.self c.add-2.new.self c.args.entry.now c.self.invariant pushed
    (AreDistinct-entries c.enter.new.table fresh.unique) few c.in_ok-add.ensures.added c.in_ok-add.ensures.side
    c.in-Ok.ensures.added c.in-Ok.ensures.side)

pub invariant_of-self-in-Err : goal.invariant_of-self-in-Err
invariant_of-self-in-Err c =
    let undone = c.undo_add.ensures.undone c.self.inside.by_map c.args.entry.now.map c.in_ok-add.ensures.added in
    let tied = AreTied-undone (entries_of c.self.inside.table) c.self.inside.by_map c.self.inside.by_key c.add.new.self
    c.undo_add.new.self c.args.entry.now.map c.self.invariant c.in_ok-add.ensures.added undone
    c.undo_add.ensures.side in
    rw (entries_of-same c.self.inside.table c.reserve.new.self c.in_ok-reserve.ensures.entries, c.in-Err.ensures.err)
    tied

pub returns-then-len-clause-sound : goal.returns-then-len-clause-sound
returns-then-len-clause-sound c =
    rw (← c.self.view_is)
    (AreEntries-from_tied (entries_of c.self.inside.table) c.self.inside.by_map c.self.inside.by_key c.self.invariant)

pub returns-in_err-reserve-clause-sound : goal.returns-in_err-reserve-clause-sound
returns-in_err-reserve-clause-sound c = AreEntries-from_tied (entries_of c.reserve.new.self) c.self.inside.by_map
    c.self.inside.by_key
    (rw (entries_of-same c.self.inside.table c.reserve.new.self c.in_err-reserve.ensures.entries) c.self.invariant)

pub returns-in_err-add-clause-sound : goal.returns-in_err-add-clause-sound
returns-in_err-add-clause-sound c = AreEntries-from_tied (entries_of c.reserve.new.self) c.add.new.self
    c.self.inside.by_key
    (rw (
      entries_of-same c.self.inside.table c.reserve.new.self c.in_ok-reserve.ensures.entries,
      c.in_err-add.ensures.err,
    ) c.self.invariant)

pub returns-in_ok-enter-in-Ok : goal.returns-in_ok-enter-in-Ok
returns-in_ok-enter-in-Ok c =
    let none : value_at (entries_of c.self.inside.table) c.args.entry.now.map c.args.entry.now.key ≡ None =
    rw (← c.self.view_is) at c.requires.absent in
    let fresh = c.in_ok-enter-in-Ok.ensures in
    let put = put_at-inserted c.self.inside.table c.reserve.new.self c.enter.new.table c.args.entry.now.map
    c.args.entry.now.key c.args.entry.now.value c.in_ok-reserve.ensures.entries none fresh.ok in
    let pushed = put ∙ put_at-new (entries_of c.self.inside.table) c.args.entry.now.map c.args.entry.now.key
    c.args.entry.now.value none in
    let few : length (entries_of c.self.inside.table) < 4294967295 =
    (let len = length-map c.self.inside.table.entries seen_entry in let count = c.len.ensures.len in let low =
    c.if-len.false in omega (arith, len, count, low)) in
    let tied = AreTied-added (entries_of c.self.inside.table) (entries_of c.enter.new.table) c.self.inside.by_map
    c.self.inside.by_key c.add.new.self c.add-2.new.self c.args.entry.now c.self.invariant pushed
    (AreDistinct-entries c.enter.new.table fresh.unique) few c.in_ok-add.ensures.added c.in_ok-add.ensures.side
    c.in-Ok.ensures.added c.in-Ok.ensures.side in
    rw (← c.self.view_is) record {
      entries = pushed;
      found = λ m k. ap (λ es. value_at es m k) put ∙ value_at-put_at (entries_of c.self.inside.table)
          c.args.entry.now.map c.args.entry.now.key c.args.entry.now.value m k;
      left = λ i. record { by_map = c.in_ok-add.ensures.added.left i; by_key = c.in-Ok.ensures.added.left i };
      parallel = AreParallel-tied (entries_of c.enter.new.table) c.add.new.self c.add-2.new.self tied;
      sound = AreEntries-from_tied (entries_of c.enter.new.table) c.add.new.self c.add-2.new.self tied;
      err = tt;
    }

pub undo_add-requires : goal.undo_add-requires
undo_add-requires c =
    record { before = c.self.inside.by_map; place = c.args.entry.now.map; added = c.in_ok-add.ensures.added }

pub returns-in-Err : goal.returns-in-Err
returns-in-Err c =
    let undone = c.undo_add.ensures.undone c.self.inside.by_map c.args.entry.now.map c.in_ok-add.ensures.added in
    let tied = AreTied-undone (entries_of c.self.inside.table) c.self.inside.by_map c.self.inside.by_key c.add.new.self
    c.undo_add.new.self c.args.entry.now.map c.self.invariant c.in_ok-add.ensures.added undone
    c.undo_add.ensures.side in
    let now : AreTied (entries_of c.reserve.new.self) c.undo_add.new.self c.add-2.new.self =
    rw (
      entries_of-same c.self.inside.table c.reserve.new.self c.in_ok-reserve.ensures.entries,
      c.in-Err.ensures.err,
    ) tied in
    record {
      entries = tt;
      found = tt;
      left = tt;
      parallel = AreParallel-tied (entries_of c.reserve.new.self) c.undo_add.new.self c.add-2.new.self now;
      sound = AreEntries-from_tied (entries_of c.reserve.new.self) c.undo_add.new.self c.add-2.new.self now;
      err = rw (← c.self.view_is)
          (state-undone (entries_of c.self.inside.table) (entries_of c.reserve.new.self) c.self.inside.by_map
          c.self.inside.by_key c.add.new.self c.undo_add.new.self c.add-2.new.self
          (entries_of-same c.self.inside.table c.reserve.new.self c.in_ok-reserve.ensures.entries) undone
          c.in-Err.ensures.err);
    }
