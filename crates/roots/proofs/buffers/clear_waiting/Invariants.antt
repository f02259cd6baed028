use Rattle.std.proofs.Common.{◌≡◌, length}
use Rattle.roots.specs.Buffers.{IsWaiting, lists_of}
use Rattle.gz_names.proofs.ZoneCounts.{zones_below}
use Rattle.roots.proofs.buffers.clear_waiting.Given as goal

abbrev pub invariant-loop-zone : goal.invariant-loop-zone
invariant-loop-zone l = record {
  zones : length l.buffers ≡ 64;
  waiting : IsWaiting (lists_of l.buffers) l.left.bits;
}

abbrev pub decreases-loop-zone : goal.decreases-loop-zone
decreases-loop-zone l = zones_below 64 l.left.bits
