use Rattle.std.proofs.Common.{length}
use Rattle.weak_maps.proofs.Dropping.{Dropping}
use Rattle.weak_maps.proofs.tables.WeakMaps.drop_entries_of.Given as goal

abbrev pub invariant-loop-index : goal.invariant-loop-index
invariant-loop-index l = Dropping l.place l.initial.self l.self

abbrev pub decreases-loop-index : goal.decreases-loop-index
decreases-loop-index l = length l.self.table.entries
