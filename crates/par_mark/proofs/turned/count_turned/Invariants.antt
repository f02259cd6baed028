use Rattle.std.proofs.Common.{◌≡◌, ◌≤◌, ◌*◌, length}
use Rattle.par_mark.specs.Turned.{turned_places}
use Rattle.par_mark.proofs.turned.count_turned.Given as goal

abbrev pub invariant-loop-arena : goal.invariant-loop-arena
invariant-loop-arena l = (l.count ≡ length (turned_places l.before l.after l.arena)) × (l.count ≤ 64 * l.arena)
