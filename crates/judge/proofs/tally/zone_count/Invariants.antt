use Rattle.std.proofs.Common.{◌≡◌, ◌≤◌, length}
use Rattle.gz_names.specs.Zones.{zones_from}
use Rattle.judge.proofs.tally.zone_count.Given as goal

abbrev pub invariant-loop-index : goal.invariant-loop-index
invariant-loop-index l = record {
  few : l.count ≤ l.index;
  counted : l.count ≡ length (zones_from l.zones.bits 0 l.index);
}
