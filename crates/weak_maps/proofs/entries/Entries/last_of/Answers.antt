use Rattle.std.proofs.Common.{sym}
use Rattle.weak_maps.specs.Tables.{entries_of}
use Rattle.weak_maps.proofs.Owning.{last_of_key, last_of_map, none_owned_by}
use Rattle.weak_maps.proofs.Sound.{AreEntries-from_tied}
use Rattle.weak_maps.proofs.entries.Entries.last_of.Goals as goal

pub returns-in-Some-clause-some : goal.returns-in-Some-clause-some
returns-in-Some-clause-some c =
    rw (← c.self.view_is)
    (last_of_map (entries_of c.self.inside.table) c.self.inside.by_map c.self.inside.by_key c.self.invariant.maps
    c.self.invariant.keys c.args.place c.in-Some.entry (sym c.in-Some.ensures.entry))

pub returns-in-Some-clause-sound : goal.returns-in-Some-clause-sound
returns-in-Some-clause-sound c =
    rw (← c.self.view_is)
    (AreEntries-from_tied (entries_of c.self.inside.table) c.self.inside.by_map c.self.inside.by_key c.self.invariant)

pub returns-in-None-clause-some : goal.returns-in-None-clause-some
returns-in-None-clause-some c =
    rw (← c.self.view_is)
    (last_of_key (entries_of c.self.inside.table) c.self.inside.by_map c.self.inside.by_key c.self.invariant.maps
    c.self.invariant.keys c.args.place c.last-in-None.result c.last-in-None.ensures.entry)

pub returns-in-None-clause-none : goal.returns-in-None-clause-none
returns-in-None-clause-none c =
    rw (← c.self.view_is)
    (none_owned_by (entries_of c.self.inside.table) c.self.inside.by_map c.self.inside.by_key c.self.invariant.maps
    c.self.invariant.keys c.args.place c.last-in-None.result (sym c.in-None.ensures.entry) c.last-in-None.ensures.entry)

pub returns-in-None-clause-sound : goal.returns-in-None-clause-sound
returns-in-None-clause-sound c =
    rw (← c.self.view_is)
    (AreEntries-from_tied (entries_of c.self.inside.table) c.self.inside.by_map c.self.inside.by_key c.self.invariant)
