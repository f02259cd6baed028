use Rattle.std.proofs.Common.{refl}
use Rattle.weak_maps.specs.Tables.{entries_of}
use Rattle.weak_maps.proofs.Sound.{AreEntries-from_tied}
use Rattle.weak_maps.proofs.Tying.{AreTied-left, Starts-side, table-left}
use Rattle.weak_maps.proofs.entries.Entries.start_map.Goals as goal

pub invariant_of-self : goal.invariant_of-self
invariant_of-self c = AreTied-left (entries_of c.self.inside.table) c.self.inside.by_map c.self.inside.by_key
    c.start.new.self c.self.inside.by_key c.self.invariant c.start.ensures.rest c.start.ensures.side refl
    c.self.invariant.keys.sound

pub returns-clause-sound : goal.returns-clause-sound
returns-clause-sound c =
    AreEntries-from_tied (entries_of c.self.inside.table) c.start.new.self c.self.inside.by_key
    (AreTied-left (entries_of c.self.inside.table) c.self.inside.by_map c.self.inside.by_key
    c.start.new.self c.self.inside.by_key c.self.invariant c.start.ensures.rest c.start.ensures.side refl
    c.self.invariant.keys.sound)

pub returns-clause-table : goal.returns-clause-table
returns-clause-table c =
    rw (← c.self.view_is)
    (table-left (entries_of c.self.inside.table) c.self.inside.by_map c.self.inside.by_key c.start.new.self
    c.self.inside.by_key c.start.ensures.rest refl)

pub returns-clause-map : goal.returns-clause-map
returns-clause-map c =
    rw (← c.self.view_is)
    (Starts-side (λ e. e.map) c.args.colour c.args.map (entries_of c.self.inside.table) c.self.inside.by_map
    c.start.new.self c.self.invariant.maps c.start.ensures.left)
