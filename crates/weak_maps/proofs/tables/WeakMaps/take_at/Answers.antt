use Rattle.std.proofs.Common.{◌≡◌, ◌∙◌, ◌&&◌, Some, None, cond, slice_get, sym, ap}
use Rattle.gz_names.specs.declared.numbers.Place.{Place}
use Rattle.weak_maps.specs.Places.{is_same}
use Rattle.weak_maps.specs.Entries.{value_at}
use Rattle.weak_maps.specs.WeakMaps.{IsKept, WeakMapsState, state_with}
use Rattle.weak_maps.specs.declared.entries.EntryKey.{EntryKey}
use Rattle.weak_maps.proofs.Kept.{IsSound-kept, KeepsRows-same, KeepsRows-taken, entered-taken}
use Rattle.weak_maps.proofs.tables.WeakMaps.take_at.Goals.{After-take_at}
use Rattle.weak_maps.proofs.tables.WeakMaps.take_at.Goals as goal

abbrev key : After-take_at → EntryKey
key c = record { map = c.in-Some.entry.map; key = c.in-Some.entry.key }

found : (c : After-take_at) (m k : Place) → value_at c.take_at.new.self.table.entries m k
    ≡ cond (is_same (key c).map m && is_same (key c).key k) None (value_at c.self.inside.entries.table.entries m k)
found c =
    let at : slice_get c.self.inside.entries.table.entries c.args.index ≡ Some c.in-Some.entry =
    ap (λ (w : WeakMapsState). slice_get w.table.entries c.args.index) c.self.view_is ∙ sym c.in-Some.ensures.entry in
    rw at at c.take_at.ensures.found

kept : (c : After-take_at) → IsKept c.take_at.new.self c.take.new.self
kept c = record {
  entries = c.take_at.ensures.sound;
  looks = c.take_at.ensures.parallel;
  rows = c.take.ensures.sound;
  entered = entered-taken c.self.inside.delegates.rows c.take.new.self.rows c.self.inside.entries.table.entries
      c.take_at.new.self.table.entries (key c) c.take.ensures.taken (found c) c.self.invariant.entered;
}

pub invariant_of-self : goal.invariant_of-self
invariant_of-self c = kept c

pub returns-in-Some-clause-sound : goal.returns-in-Some-clause-sound
returns-in-Some-clause-sound c = IsSound-kept c.take_at.new.self c.take.new.self (kept c)

pub returns-in-Some-clause-rows : goal.returns-in-Some-clause-rows
returns-in-Some-clause-rows c =
    rw (← c.self.view_is)
    (KeepsRows-taken (state_with c.self.inside.entries c.self.inside.delegates).table
    (state_with c.take_at.new.self c.take.new.self).table (key c)
    (IsSound-kept c.self.inside.entries c.self.inside.delegates c.self.invariant) c.take.ensures.taken (found c))

pub returns-in_default-clause-rows : goal.returns-in_default-clause-rows
returns-in_default-clause-rows c = KeepsRows-same c.args.self.now.table c.entry.ensures.sound
