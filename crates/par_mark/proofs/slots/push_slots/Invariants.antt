use Rattle.std.proofs.Common.{◌≡◌, ◌++◌, vec_capacity}
use Rattle.mark_words.specs.Places.{places_of}
use Rattle.par_mark.proofs.slots.push_slots.Given as goal

abbrev pub invariant-loop-left : goal.invariant-loop-left
invariant-loop-left l = (l.list.items ++ places_of l.arena l.left ≡ l.fn.list.items ++ places_of l.arena l.fn.slots)
    × (vec_capacity l.list ≡ vec_capacity l.fn.list)

abbrev pub decreases-loop-left : goal.decreases-loop-left
decreases-loop-left l = l.left
