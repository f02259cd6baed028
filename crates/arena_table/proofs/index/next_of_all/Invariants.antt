use Rattle.arena_table.proofs.Uniting.{IsSeeking}
use Rattle.arena_table.proofs.index.next_of_all.Given as goal

abbrev pub invariant-loop-left : goal.invariant-loop-left
invariant-loop-left l = IsSeeking l.sets l.zones l.from l.left l.lowest

abbrev pub decreases-loop-left : goal.decreases-loop-left
decreases-loop-left l = l.left
