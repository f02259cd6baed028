use Rattle.std.proofs.Common.{◌≡◌, ◌∙◌, ◌&&◌, ◌++◌, ◌∷◌, [], List, None, Option, ap, cond, is_none, sym}
use Rattle.gz_names.specs.declared.numbers.Place.{Place}
use Rattle.weak_maps.specs.Places.{is_same}
use Rattle.weak_maps.specs.Delegates.{DelegateRow, delegate_at}
use Rattle.weak_maps.specs.Entries.{value_at}
use Rattle.weak_maps.specs.WeakMaps.{target_of}
use Rattle.weak_maps.proofs.Kept.{IsSound-kept, delegate-added, entered-put, no_row_without}
use Rattle.weak_maps.proofs.Table.{put_at-new}
use Rattle.weak_maps.proofs.tables.WeakMaps.put.Goals as goal

pub invariant_of-self : goal.invariant_of-self
invariant_of-self c = record {
  entries = c.replace.ensures.sound;
  looks = c.replace.ensures.parallel;
  rows = c.self.invariant.rows;
  entered = entered-put c.self.inside.delegates.rows c.self.inside.entries.table.entries
      c.replace.new.self.table.entries
      c.args.entry.map c.args.entry.key c.args.entry.value c.in-Some.ensures.found c.self.invariant.entered;
}

pub returns-in-Some-clause-sound : goal.returns-in-Some-clause-sound
returns-in-Some-clause-sound c =
    IsSound-kept c.replace.new.self c.self.inside.delegates (record {
      entries = c.replace.ensures.sound;
      looks = c.replace.ensures.parallel;
      rows = c.self.invariant.rows;
      entered = entered-put c.self.inside.delegates.rows c.self.inside.entries.table.entries
          c.replace.new.self.table.entries
          c.args.entry.map c.args.entry.key c.args.entry.value c.in-Some.ensures.found c.self.invariant.entered;
    })

pub returns-clause-entries : goal.returns-clause-entries
returns-clause-entries c =
    let same = c.in_default.ensures.none in
    let none : value_at c.self.inside.entries.table.entries c.args.entry.map c.args.entry.key ≡ None =
    sym c.in_default.ensures.old in
    c.in_ok-add.ensures.entries
    ∙ (ap (λ s. s.table.entries ++ c.args.entry ∷ []) same
    ∙ rw (← c.self.view_is)
    (sym (put_at-new c.self.inside.entries.table.entries c.args.entry.map c.args.entry.key c.args.entry.value none)))

pub returns-in-Some-clause-delegates : goal.returns-in-Some-clause-delegates
returns-in-Some-clause-delegates c = rw (← c.self.view_is) (λ m k.
    ap (λ (o : Option Place). cond (is_none o && (is_same c.args.entry.map m && is_same c.args.entry.key k))
    (target_of c.args.delegate) (delegate_at c.self.inside.delegates.rows m k)) c.in-Some.ensures.old)

pub returns-clause-delegates : goal.returns-clause-delegates
returns-clause-delegates c =
    let rows = c.self.inside.delegates.rows in
    let none : value_at c.self.inside.entries.table.entries c.args.entry.map c.args.entry.key ≡ None =
    sym c.in_default.ensures.old in
    let no_row = no_row_without rows c.self.inside.entries.table.entries c.args.entry.map c.args.entry.key
    c.self.invariant.entered none in
    rw (← c.self.view_is) (λ m k. ap (λ (rs : List DelegateRow). delegate_at rs m k) c.in_ok-add.ensures.rows
    ∙ (delegate-added rows (record { map = c.args.entry.map; key = c.args.entry.key }) c.args.delegate no_row m k
    ∙ ap (λ (o : Option Place). cond (is_none o && (is_same c.args.entry.map m && is_same c.args.entry.key k))
    (target_of c.args.delegate) (delegate_at rows m k)) (sym none)))
