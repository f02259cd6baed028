use Rattle.weak_maps.proofs.Dropping.{Visited}
use Rattle.weak_maps.proofs.tables.WeakMaps.drop_entries_in.Given as goal

abbrev pub invariant-loop-slot : goal.invariant-loop-slot
invariant-loop-slot l = Visited l.arena l.slots l.slot l.initial.self l.self
