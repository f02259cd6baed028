use Rattle.std.proofs.Common.{◌-◌, ◌*◌, length}
use Rattle.arena_table.proofs.WordBits.{IsCovering}
use Rattle.arena_table.proofs.arena_sets.cover_words.Given as goal

abbrev pub invariant-loop-words : goal.invariant-loop-words
invariant-loop-words l = IsCovering l.initial.words.items l.words.items l.groups.items

abbrev pub decreases-loop-words : goal.decreases-loop-words
decreases-loop-words l = l.count - length l.words.items * 64
