use Rattle.std.proofs.Common.{◌≡◌, ◌<◌}
use Rattle.weak_maps.specs.WeakMaps.{IsSound as AreEntries}
use Rattle.slice_driver.specs.Listings.{entries_below}
use Rattle.slice_driver.proofs.listings.entries_by_name.Given as goal

abbrev pub invariant-loop-index : goal.invariant-loop-index
invariant-loop-index l = record {
  entries : l.entries.items ≡ entries_below l.heap.shape l.index;
  sound : 0 < l.index → AreEntries l.heap.shape.weak;
}
