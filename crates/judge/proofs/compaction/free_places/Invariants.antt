use Rattle.std.proofs.Common.{◌≡◌, ◌++◌, drop}
use Rattle.judge.specs.Compaction.{free_in}
use Rattle.judge.proofs.compaction.free_places.Given as goal

abbrev pub invariant-loop-arena : goal.invariant-loop-arena
invariant-loop-arena l = l.free.items ++ free_in l.taken (drop l.arena-index l.arenas) ≡ free_in l.taken l.arenas
