use Rattle.std.proofs.Common.{◌≡◌, ℕ, ◌<◌, length, slice_index}
use Rattle.mark_words.proofs.marks.Marks.close.Given as goal

abbrev pub invariant-loop-index : goal.invariant-loop-index
invariant-loop-index g l = (length l.words.items ≡ length l.fn.self.words.items)
    × ((i : ℕ) → i < l.index → slice_index l.words.items i ≡ slice_index (l.closed.words.items) i)
