use Rattle.std.proofs.Common.{◌≡◌, ◌<◌, ◌≤◌, ℕ, None, slice_index_or}
use Rattle.std.specs.Option.{option_map}
use Rattle.gz_names.specs.Moves.{moved}
use Rattle.roots.proofs.roots_held.forward_all.Given as goal

abbrev pub invariant-loop-place : goal.invariant-loop-place
invariant-loop-place l = record {
  done : (k : ℕ) → k < l.place-index
      → slice_index_or l.held k None ≡ option_map (moved l.moves) (slice_index_or l.initial.held k None);
  left : (k : ℕ) → l.place-index ≤ k → slice_index_or l.held k None ≡ slice_index_or l.initial.held k None;
}
