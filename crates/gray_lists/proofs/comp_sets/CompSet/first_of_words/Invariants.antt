use Rattle.std.proofs.Common.{◌≤◌, ◌<◌, ◌*◌, ℕ}
use Rattle.gray_lists.specs.CompSets.{HasComp}
use Rattle.gray_lists.proofs.comp_sets.CompSet.first_of_words.Given as goal

abbrev pub invariant-loop-word : goal.invariant-loop-word
invariant-loop-word l = (n : ℕ) → 64 * l.from ≤ n → n < 64 * l.word → HasComp l.self.words n → ⊥
