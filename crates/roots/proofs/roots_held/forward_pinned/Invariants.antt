use Rattle.std.proofs.Common.{◌≡◌, ◌<◌, ◌≤◌, ℕ, None, length, slice_index_or}
use Rattle.std.specs.Option.{option_map}
use Rattle.gz_names.specs.Moves.{moved}
use Rattle.roots.proofs.roots_held.forward_pinned.Given as goal

abbrev pub invariant-loop-root : goal.invariant-loop-root
invariant-loop-root l = record {
  sized : length l.pinned.slots ≡ length l.initial.pinned.slots;
  done : (k : ℕ) → k < l.root → slice_index_or l.pinned.slots k None
      ≡ option_map (moved l.moves) (slice_index_or l.initial.pinned.slots k None);
  left : (k : ℕ) → l.root ≤ k
      → slice_index_or l.pinned.slots k None ≡ slice_index_or l.initial.pinned.slots k None;
}
