use Rattle.std.proofs.Common.{map, ap}
use Rattle.weak_maps.specs.Tables.{entries_of}
use Rattle.weak_maps.proofs.Sound.{AreEntries-from_tied}
use Rattle.weak_maps.proofs.Table.{seen_entry}
use Rattle.weak_maps.proofs.Tying.{AreTied-none}
use Rattle.weak_maps.proofs.entries.Entries.new.Goals as goal

pub returns-clause-sound : goal.returns-clause-sound
returns-clause-sound c =
    AreEntries-from_tied (entries_of c.new.result) c.new-2.result c.new-3.result
    (AreTied-none (entries_of c.new.result) c.new-2.result c.new-3.result (ap (map seen_entry) c.new.ensures.empty)
    c.new-2.ensures.none c.new-3.ensures.none c.new-2.ensures.side c.new-3.ensures.side)
