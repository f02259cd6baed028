use Rattle.mark_ahead.proofs.MarkingArenas.{Pushed}
use Rattle.mark_ahead.proofs.black_words.push_slots.Given as goal

abbrev pub invariant-loop-left : goal.invariant-loop-left
invariant-loop-left l = Pushed l.arena l.word l.fn.places.items l.left l.places.items

abbrev pub decreases-loop-left : goal.decreases-loop-left
decreases-loop-left l = l.left
