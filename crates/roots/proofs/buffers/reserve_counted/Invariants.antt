use Rattle.std.proofs.Common.{◌≡◌, ◌<◌, ◌≤◌, ◌+◌, ℕ, length, slice_index}
use Rattle.gz_names.specs.Zones.{HasZone}
use Rattle.roots.specs.Buffers.{buffer_at, lists_of, capacities_of}
use Rattle.gz_names.proofs.ZoneCounts.{zones_below}
use Rattle.roots.proofs.buffers.reserve_counted.Given as goal

abbrev pub invariant-loop-zone : goal.invariant-loop-zone
invariant-loop-zone l = record {
  same : lists_of l.buffers ≡ lists_of l.initial.buffers;
  room : (z : ℕ) → z < 64 → (HasZone l.left.bits z → ⊥)
      → length (buffer_at (lists_of l.buffers) z) + slice_index l.fn.counts z ≤ slice_index (capacities_of l.buffers) z;
}

abbrev pub decreases-loop-zone : goal.decreases-loop-zone
decreases-loop-zone l = zones_below 64 l.left.bits
