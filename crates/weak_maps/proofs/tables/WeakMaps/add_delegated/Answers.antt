use Rattle.std.proofs.Common.{◌≡◌, ◌∙◌, ◌&&◌, None, Some, cond, refl, sym, subst}
use Rattle.weak_maps.specs.Entries.{EntriesState, value_at}
use Rattle.weak_maps.specs.Delegates.{row_of}
use Rattle.weak_maps.specs.WeakMaps.{HaveEntries, IsKept}
use Rattle.weak_maps.proofs.Kept.{IsSound-kept, entered-added, entered-put, kept_looks, no_row_without}
use Rattle.weak_maps.proofs.Places.{is_same-self}
use Rattle.weak_maps.proofs.tables.WeakMaps.add_delegated.Goals as goal

pub add-requires : goal.add-requires
add-requires c =
    let none : value_at c.self.inside.entries.table.entries c.args.entry.now.map c.args.entry.now.key ≡ None =
    rw (← c.self.view_is) at c.requires.absent in
    record {
      absent = no_row_without c.self.inside.delegates.rows c.self.inside.entries.table.entries c.args.entry.now.map
          c.args.entry.now.key c.self.invariant.entered none;
    }

pub returns-in_err-add-clause-sound : goal.returns-in_err-add-clause-sound
returns-in_err-add-clause-sound c =
    IsSound-kept c.self.inside.entries c.add.new.self
    (kept_looks c.self.inside.entries c.self.inside.entries c.self.inside.delegates c.add.new.self c.self.invariant refl
    c.self.invariant.entries c.self.invariant.looks c.in_err-add.ensures.err.shows c.add.ensures.sound)

pub invariant_of-self-in-Ok : goal.invariant_of-self-in-Ok
invariant_of-self-in-Ok c =
    let entry = c.args.entry.now in
    let old = c.self.inside.entries.table.entries in
    let new = c.add-2.new.self.table.entries in
    let rows = c.self.inside.delegates.rows in
    let found = c.in-Ok.ensures.found in
    let there : value_at new entry.map entry.key ≡ Some entry.value = found entry.map entry.key
    ∙ (λ j. cond (is_same-self entry.map j && is_same-self entry.key j) (Some entry.value)
    (value_at old entry.map entry.key)) in
    let row = row_of (record { map = entry.map; key = entry.key }) c.args.delegate in
    let entered = subst (λ rs. HaveEntries rs new) (sym c.in_ok-add.ensures.added.rows)
    (entered-added rows row new entry.value there
    (entered-put rows old new entry.map entry.key entry.value found c.self.invariant.entered)) in
    record {
      entries = c.add-2.ensures.sound;
      looks = c.add-2.ensures.parallel;
      rows = c.add.ensures.sound;
      entered = entered;
    }

pub returns-in-Ok-clause-sound : goal.returns-in-Ok-clause-sound
returns-in-Ok-clause-sound c =
    let entry = c.args.entry.now in
    let old = c.self.inside.entries.table.entries in
    let new = c.add-2.new.self.table.entries in
    let rows = c.self.inside.delegates.rows in
    let found = c.in-Ok.ensures.found in
    let there : value_at new entry.map entry.key ≡ Some entry.value = found entry.map entry.key
    ∙ (λ j. cond (is_same-self entry.map j && is_same-self entry.key j) (Some entry.value)
    (value_at old entry.map entry.key)) in
    let row = row_of (record { map = entry.map; key = entry.key }) c.args.delegate in
    let entered = subst (λ rs. HaveEntries rs new) (sym c.in_ok-add.ensures.added.rows)
    (entered-added rows row new entry.value there
    (entered-put rows old new entry.map entry.key entry.value found c.self.invariant.entered)) in
    IsSound-kept c.add-2.new.self c.add.new.self (record {
      entries = c.add-2.ensures.sound;
      looks = c.add-2.ensures.parallel;
      rows = c.add.ensures.sound;
      entered = entered;
    })

pub invariant_of-self-in-Err : goal.invariant_of-self-in-Err
invariant_of-self-in-Err c =
    let undone = c.undo_add.ensures.undone c.self.inside.delegates
    (row_of (record { map = c.args.entry.now.map; key = c.args.entry.now.key }) c.args.delegate)
    c.in_ok-add.ensures.added in
    let kept = subst (λ (e : EntriesState). IsKept e c.undo_add.new.self) (sym c.in-Err.ensures.err)
    (kept_looks c.self.inside.entries c.self.inside.entries c.self.inside.delegates c.undo_add.new.self c.self.invariant
    refl c.self.invariant.entries c.self.invariant.looks undone.shows c.undo_add.ensures.sound) in
    kept

pub returns-in-Err-clause-sound : goal.returns-in-Err-clause-sound
returns-in-Err-clause-sound c =
    let undone = c.undo_add.ensures.undone c.self.inside.delegates
    (row_of (record { map = c.args.entry.now.map; key = c.args.entry.now.key }) c.args.delegate)
    c.in_ok-add.ensures.added in
    let kept = subst (λ (e : EntriesState). IsKept e c.undo_add.new.self) (sym c.in-Err.ensures.err)
    (kept_looks c.self.inside.entries c.self.inside.entries c.self.inside.delegates c.undo_add.new.self c.self.invariant
    refl c.self.invariant.entries c.self.invariant.looks undone.shows c.undo_add.ensures.sound) in
    IsSound-kept c.add-2.new.self c.undo_add.new.self kept
