use Rattle.std.proofs.Common.{◌≡◌, ◌<◌, ◌≤◌, ℕ, Bool, None, slice_index_or}
use Rattle.gz_names.specs.declared.numbers.Place.{Place}
use Rattle.weak_refs.specs.WeakNames.{AnswersBy, unless_dead}
use Rattle.weak_refs.proofs.weak_names.empty_dead.Given as goal

abbrev pub invariant-loop-named : goal.invariant-loop-named
invariant-loop-named g l = record {
  done : (is_dead : Place → Bool) → AnswersBy (goal.D-post g l.dead) is_dead → (k : ℕ) → k < l.named-index
      → slice_index_or l.slots k None ≡ unless_dead is_dead (slice_index_or l.initial.slots k None);
  left : (k : ℕ) → l.named-index ≤ k → slice_index_or l.slots k None ≡ slice_index_or l.initial.slots k None;
}
