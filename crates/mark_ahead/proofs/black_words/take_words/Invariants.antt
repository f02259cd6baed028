use Rattle.std.proofs.Common.{◌-◌, length}
use Rattle.mark_ahead.proofs.MarkingArenas.{TakesBelow}
use Rattle.mark_ahead.proofs.black_words.take_words.Given as goal

abbrev pub invariant-loop-arena : goal.invariant-loop-arena
invariant-loop-arena l = TakesBelow l.words l.fn.heap l.from l.heap

abbrev pub decreases-loop-arena : goal.decreases-loop-arena
decreases-loop-arena l = length l.fn.heap.shape.arenas - l.from
