use Rattle.std.proofs.Common.{◌≡◌, ◌<◌, ◌≤◌, ℕ, None, slice_index_or}
use Rattle.judge.specs.Weak.{if_present}
use Rattle.judge.proofs.weak.lose_absent.Given as goal

abbrev pub invariant-loop-named : goal.invariant-loop-named
invariant-loop-named l = record {
  done : (k : ℕ) → k < l.named-index
      → slice_index_or l.slots k None ≡ if_present l.places (slice_index_or l.initial.slots k None);
  left : (k : ℕ) → l.named-index ≤ k → slice_index_or l.slots k None ≡ slice_index_or l.initial.slots k None;
}
