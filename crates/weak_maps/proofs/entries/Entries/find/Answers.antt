use Rattle.std.proofs.Common.{sym, ◌∙◌}
use Rattle.weak_maps.specs.Tables.{entries_of}
use Rattle.weak_maps.proofs.Table.{value_at-entries}
use Rattle.weak_maps.proofs.Sound.{AreEntries-from_tied}
use Rattle.weak_maps.proofs.entries.Entries.find.Goals as goal

pub returns-clause-value : goal.returns-clause-value
returns-clause-value c =
    rw (c.copied.ensures, ← c.self.view_is)
    (c.get.ensures.value ∙ sym (value_at-entries c.self.inside.table c.args.map c.args.key))

pub returns-clause-sound : goal.returns-clause-sound
returns-clause-sound c =
    rw (← c.self.view_is)
    (AreEntries-from_tied (entries_of c.self.inside.table) c.self.inside.by_map c.self.inside.by_key c.self.invariant)
