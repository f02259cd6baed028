use Rattle.std.proofs.Common.{◌≡◌, ◌≤◌, length, vec_capacity}
use Rattle.par_mark.specs.Turned.{turned_places}
use Rattle.par_mark.proofs.turned.turned_cells.Given as goal

abbrev pub invariant-loop-arena : goal.invariant-loop-arena
invariant-loop-arena l = (l.cells.items ≡ turned_places l.before l.after l.arena)
    × (length (turned_places l.before l.after l.arenas) ≤ vec_capacity l.cells)
