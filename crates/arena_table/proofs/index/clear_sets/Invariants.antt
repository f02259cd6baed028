use Rattle.arena_table.proofs.Clearing.{IsClearing}
use Rattle.arena_table.proofs.index.clear_sets.Given as goal

abbrev pub invariant-loop-left : goal.invariant-loop-left
invariant-loop-left l = IsClearing l.initial.sets l.sets l.zones l.left

abbrev pub decreases-loop-left : goal.decreases-loop-left
decreases-loop-left l = l.left
