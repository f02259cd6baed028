use Rattle.weak_maps.specs.WeakMaps.{IsKept, state_with}
use Rattle.weak_maps.specs.declared.entries.EntryKey.{EntryKey}
use Rattle.weak_maps.proofs.Kept.{IsSound-kept, KeepsRows-taken, entered-taken}
use Rattle.weak_maps.proofs.tables.WeakMaps.del.Goals as goal

pub invariant_of-self : goal.invariant_of-self
invariant_of-self c =
    let key : EntryKey = record { map = c.args.map; key = c.args.key } in
    let kept : IsKept c.del.new.self c.take.new.self = record {
      entries = c.del.ensures.sound;
      looks = c.del.ensures.parallel;
      rows = c.take.ensures.sound;
      entered = entered-taken c.self.inside.delegates.rows c.take.new.self.rows c.self.inside.entries.table.entries
          c.del.new.self.table.entries key c.take.ensures.taken c.del.ensures.found c.self.invariant.entered;
    } in
    kept

pub returns-clause-sound : goal.returns-clause-sound
returns-clause-sound c =
    let key : EntryKey = record { map = c.args.map; key = c.args.key } in
    let kept : IsKept c.del.new.self c.take.new.self = record {
      entries = c.del.ensures.sound;
      looks = c.del.ensures.parallel;
      rows = c.take.ensures.sound;
      entered = entered-taken c.self.inside.delegates.rows c.take.new.self.rows c.self.inside.entries.table.entries
          c.del.new.self.table.entries key c.take.ensures.taken c.del.ensures.found c.self.invariant.entered;
    } in
    IsSound-kept c.del.new.self c.take.new.self kept

pub returns-clause-rows : goal.returns-clause-rows
returns-clause-rows c =
    rw (← c.self.view_is)
    (KeepsRows-taken (state_with c.self.inside.entries c.self.inside.delegates).table
    (state_with c.del.new.self c.take.new.self).table (record { map = c.args.map; key = c.args.key })
    (IsSound-kept c.self.inside.entries c.self.inside.delegates c.self.invariant) c.take.ensures.taken
    c.del.ensures.found)
