use Rattle.std.proofs.Common.{refl}
use Rattle.weak_maps.specs.Tables.{entries_of}
use Rattle.weak_maps.proofs.Sound.{AreEntries-from_tied}
use Rattle.weak_maps.proofs.Tying.{AreTied-left, Starts-side, table-left}
use Rattle.weak_maps.proofs.entries.Entries.start_key.Goals as goal

pub invariant_of-self : goal.invariant_of-self
invariant_of-self c = AreTied-left (entries_of c.self.inside.table) c.self.inside.by_map c.self.inside.by_key
    c.self.inside.by_map c.start.new.self c.self.invariant refl c.self.invariant.maps.sound c.start.ensures.rest
    c.start.ensures.side

pub returns-clause-sound : goal.returns-clause-sound
returns-clause-sound c =
    AreEntries-from_tied (entries_of c.self.inside.table) c.self.inside.by_map c.start.new.self
    (AreTied-left (entries_of c.self.inside.table) c.self.inside.by_map c.self.inside.by_key
    c.self.inside.by_map c.start.new.self c.self.invariant refl c.self.invariant.maps.sound c.start.ensures.rest
    c.start.ensures.side)

pub returns-clause-table : goal.returns-clause-table
returns-clause-table c =
    rw (← c.self.view_is)
    (table-left (entries_of c.self.inside.table) c.self.inside.by_map c.self.inside.by_key c.self.inside.by_map
    c.start.new.self refl c.start.ensures.rest)

pub returns-clause-key : goal.returns-clause-key
returns-clause-key c =
    rw (← c.self.view_is)
    (Starts-side (λ e. e.key) c.args.colour c.args.key (entries_of c.self.inside.table) c.self.inside.by_key
    c.start.new.self c.self.invariant.keys c.start.ensures.left)
