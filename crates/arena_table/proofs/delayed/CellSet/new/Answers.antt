use Rattle.arena_table.proofs.CellSets.{AreCells-none}
use Rattle.arena_table.proofs.delayed.CellSet.new.Goals as goal

pub invariant_of-result : goal.invariant_of-result
invariant_of-result c = AreCells-none c.new.result.items c.new-2.result c.new.ensures.items c.new-2.ensures
