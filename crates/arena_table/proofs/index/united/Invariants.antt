use Rattle.arena_table.proofs.Uniting.{IsUniting}
use Rattle.arena_table.proofs.index.united.Given as goal

abbrev pub invariant-loop-left : goal.invariant-loop-left
invariant-loop-left l = IsUniting l.sets l.zones l.at l.left l.word

abbrev pub decreases-loop-left : goal.decreases-loop-left
decreases-loop-left l = l.left
