-- Several threads may read a heap at once. The check derives this of types without a `Snapshot` alone, and the heap
-- remembers by one in which ledger its edges are counted.
use denote.Param.Send.{IsSync, sendable, view_sync}
use denote.Param.SendFields.{declared_sync}
use Rattle.std.proofs.Crossing.{crosses}
use Rattle.arena_table.proofs.arenas.Arenas.TheSendSync as arenas
use Rattle.zones.proofs.zones_made.Zones.TheSendSync as zones
use Rattle.wrappers.proofs.wrapper_maps.Wrappers.TheSendSync as wrappers
use Rattle.wrappers.proofs.target_zones.TargetZones.TheSendSync as target_zones
use Rattle.roots.proofs.roots_held.Roots.TheSendSync as roots
use Rattle.weak_maps.proofs.tables.WeakMaps.TheSendSync as weak_maps
use Rattle.weak_refs.proofs.weak_names.WeakRefs.TheSendSync as weak_refs
use Rattle.heap_core.specs.contracts.heap.Heap as heap

pub heap_sync : IsSync heap.the_row
heap_sync = search (
  crosses,
  view_sync,
  declared_sync,
  arenas.the_sync,
  zones.the_sync,
  wrappers.the_sync,
  target_zones.the_sync,
  roots.the_sync,
  weak_maps.the_sync,
  weak_refs.the_sync,
  sendable,
) depth 20
