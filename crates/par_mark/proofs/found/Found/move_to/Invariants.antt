use Rattle.std.proofs.Common.{◌≡◌, ◌++◌, take}
use Rattle.std.specs.VecDeque.{deque_capacity}
use Rattle.par_mark.proofs.found.Found.move_to.Given as goal

abbrev pub invariant-loop-place : goal.invariant-loop-place
invariant-loop-place l = (l.tries.items ≡ l.fn.tries.items ++ take l.place-index l.fn.self)
    × (deque_capacity l.tries ≡ deque_capacity l.fn.tries)
