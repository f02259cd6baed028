use Rattle.std.proofs.Common.{ℕ}
use Rattle.slice_driver.specs.Grays.{grays_below}
use Rattle.slice_driver.specs.NextGray.{Picks}
use Rattle.slice_driver.proofs.group_end.GraySlots.{IsLeft}
use Rattle.slice_driver.proofs.next_gray.first_among.Given as goal

abbrev pub invariant-loop-left : goal.invariant-loop-left
invariant-loop-left l = (n : ℕ) × IsLeft l.fn.slots l.left n
    × Picks l.after l.fn.first (grays_below l.heap l.arena n) l.found

abbrev pub decreases-loop-left : goal.decreases-loop-left
decreases-loop-left l = l.left
