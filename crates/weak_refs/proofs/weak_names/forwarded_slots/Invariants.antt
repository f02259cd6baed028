use Rattle.std.proofs.Common.{◌≡◌, ◌<◌, ℕ, None, length, slice_index_or}
use Rattle.std.specs.Option.{option_map}
use Rattle.gz_names.specs.Moves.{moved}
use Rattle.weak_refs.proofs.weak_names.forwarded_slots.Given as goal

abbrev pub invariant-loop-index : goal.invariant-loop-index
invariant-loop-index l = record {
  sized : length l.gone ≡ 64;
  done : (k : ℕ) → k < l.index → slice_index_or l.gone k None
      ≡ option_map (moved l.moves) (slice_index_or l.slots k None);
}
