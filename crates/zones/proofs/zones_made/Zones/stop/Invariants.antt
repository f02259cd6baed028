use Rattle.std.proofs.Common.{◌≡◌, ◌<◌, ℕ, Some, length, slice_get}
use Rattle.gz_names.specs.Zones.{HasZone}
use Rattle.zones.specs.declared.states.State.TheVariants.{NoGC}
use Rattle.gz_names.proofs.ZoneCounts.{zones_below}
use Rattle.zones.proofs.zones_made.Zones.stop.Given as goal

abbrev pub invariant-loop-zone : goal.invariant-loop-zone
invariant-loop-zone l = record {
  left : (z : ℕ) → HasZone l.left.bits z → HasZone l.fn.zones.bits z;
  stopped : (z : ℕ) → HasZone l.fn.zones.bits z → (HasZone l.left.bits z → ⊥)
      → slice_get l.self.states z ≡ Some NoGC;
  others : (z : ℕ) → (HasZone l.fn.zones.bits z → ⊥)
      → slice_get l.self.states z ≡ slice_get l.initial.self.states z;
  count : length l.self.states ≡ length l.initial.self.states;
  comps : l.self.comps ≡ l.initial.self.comps;
}

abbrev pub decreases-loop-zone : goal.decreases-loop-zone
decreases-loop-zone l = zones_below 64 l.left.bits
