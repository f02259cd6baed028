use Rattle.std.proofs.Common.{◌≡◌, ◌<◌, ◌-◌, ℕ, []}
use Rattle.gray_lists.specs.Incoming.{list_of}
use Rattle.marker.specs.Waiting.{IsCompOf}
use Rattle.marker.proofs.waiting.waiting_comp.Given as goal

abbrev pub invariant-loop-comp : goal.invariant-loop-comp
invariant-loop-comp l = (n : ℕ) → n < l.from → IsCompOf l.heap.shape l.group.bits n → list_of l.lists n ≡ []

abbrev pub decreases-loop-comp : goal.decreases-loop-comp
decreases-loop-comp l = 256 - l.from
