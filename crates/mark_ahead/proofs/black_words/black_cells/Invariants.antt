use Rattle.std.proofs.Common.{◌-◌, length}
use Rattle.mark_ahead.proofs.MarkingArenas.{Listed}
use Rattle.mark_ahead.proofs.black_words.black_cells.Given as goal

abbrev pub invariant-loop-arena : goal.invariant-loop-arena
invariant-loop-arena l = Listed l.heap l.from l.cells.items

abbrev pub decreases-loop-arena : goal.decreases-loop-arena
decreases-loop-arena l = length l.heap.shape.arenas - l.from
