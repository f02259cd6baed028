use Rattle.std.proofs.Common.{◌≡◌, ℕ, ◌⊎◌, None, slice_index}
use Rattle.gz_names.specs.Zones.{HasZone}
use Rattle.zone_edges.specs.Looks.{wrapper_at}
use Rattle.zone_edges.specs.Sets.{size}
use Rattle.zone_edges.proofs.look.next_in_any.Given as goal

abbrev pub invariant-zones : goal.invariant-zones
invariant-zones l = record {
  same : l.cursors ≡ l.fn.cursors;
  within : (z : ℕ) → HasZone l.rest.bits z → HasZone l.fn.zones.bits z;
  ended : (z : ℕ) → HasZone l.fn.zones.bits z → HasZone l.rest.bits z
      ⊎ (wrapper_at l.fn.heap.shape z (slice_index l.fn.cursors z) ≡ None);
}

abbrev pub decreases-zones : goal.decreases-zones
decreases-zones l = size 64 l.rest.bits
