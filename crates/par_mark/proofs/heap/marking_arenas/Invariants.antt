use Rattle.std.proofs.Common.{◌≡◌, ◌≤◌, length, vec_capacity}
use Rattle.par_mark.specs.Heaps.{KnowsMarking}
use Rattle.par_mark.proofs.heap.marking_arenas.Given as goal

abbrev pub invariant-loop-arena : goal.invariant-loop-arena
invariant-loop-arena l = KnowsMarking l.heap l.arena l.marking.items × (length l.marking.items ≡ l.arena)
    × (length l.heap.shape.arenas ≤ vec_capacity l.marking)
