use Rattle.std.proofs.Common.{◌++◌, ℕ}
use Rattle.std.specs.List.Sorted.{IsPermutation}
use Rattle.slice_driver.specs.Grays.{grays_below}
use Rattle.slice_driver.proofs.group_end.GraySlots.{IsLeft}
use Rattle.slice_driver.proofs.ends.push_keys_at.Given as goal

abbrev pub invariant-loop-left : goal.invariant-loop-left
invariant-loop-left l = (n : ℕ) × IsLeft l.fn.slots l.left n ×
    IsPermutation (l.fn.keys ++ grays_below l.heap l.arena n) l.keys

abbrev pub decreases-loop-left : goal.decreases-loop-left
decreases-loop-left l = l.left
