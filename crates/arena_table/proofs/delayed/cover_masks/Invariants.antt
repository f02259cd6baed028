use Rattle.std.proofs.Common.{◌-◌, ◌≤◌, length, max}
use Rattle.arena_table.specs.Delayed.{ArePadded}
use Rattle.arena_table.proofs.delayed.cover_masks.Given as goal

abbrev pub invariant-loop-masks : goal.invariant-loop-masks
invariant-loop-masks l =
    ArePadded l.initial.masks.items l.masks.items × (length l.masks.items ≤ max (length l.initial.masks.items) l.count)

abbrev pub decreases-loop-masks : goal.decreases-loop-masks
decreases-loop-masks l = l.count - length l.masks.items
