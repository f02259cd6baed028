use Rattle.std.proofs.Common.{length}
use Rattle.arena_table.specs.Walks.{walk_rest}
use Rattle.arena_table.proofs.Visiting.{IsListing}
use Rattle.arena_table.proofs.arenas.jobs_in_zones.Given as goal

abbrev pub invariant-loop-arena : goal.invariant-loop-arena
invariant-loop-arena l = IsListing l.store.arenas l.fn.zones.bits l.jobs.items l.walk

abbrev pub decreases-loop-arena : goal.decreases-loop-arena
decreases-loop-arena l = length (walk_rest l.store.arenas l.walk)
