use Rattle.std.proofs.Common.{◌≡◌, ◌<◌, ◌+◌, ℕ, take, slice_index}
use Rattle.gz_names.specs.Zones.{HasZone}
use Rattle.roots.specs.Buffers.{count_in}
use Rattle.roots.proofs.buffers.count_items.Given as goal

abbrev pub invariant-loop-zone : goal.invariant-loop-zone
invariant-loop-zone l = record {
  counts : (z : ℕ) → z < 64
      → slice_index l.counts z ≡ slice_index l.initial.counts z + count_in z (take l.zone-index l.items);
  kept : (z : ℕ) → HasZone l.initial.counted.bits z → HasZone l.counted.bits z;
  counted : (z : ℕ) → ¬ HasZone l.counted.bits z → count_in z (take l.zone-index l.items) ≡ 0;
}
