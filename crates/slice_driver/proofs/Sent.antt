-- The heap and the collector may go to any thread. The check derives this of types without a `Snapshot` alone, and the
-- heap remembers by one in which ledger its edges are counted.
use denote.Param.Send.{IsSend, sendable, view_send}
use denote.Param.SendFields.{declared_send}
use Rattle.std.proofs.Crossing.{crosses}
use Rattle.arena_table.proofs.arenas.Arenas.TheSendSync as arenas
use Rattle.zones.proofs.zones_made.Zones.TheSendSync as zones
use Rattle.wrappers.proofs.wrapper_maps.Wrappers.TheSendSync as wrappers
use Rattle.wrappers.proofs.target_zones.TargetZones.TheSendSync as target_zones
use Rattle.roots.proofs.roots_held.Roots.TheSendSync as roots
use Rattle.weak_maps.proofs.tables.WeakMaps.TheSendSync as weak_maps
use Rattle.weak_refs.proofs.weak_names.WeakRefs.TheSendSync as weak_refs
use Rattle.mark_stack.proofs.stack.Stack.TheSendSync as stack
use Rattle.gray_lists.proofs.incoming.Lists.TheSendSync as lists
use Rattle.zone_edges.proofs.edges.Edges.TheSendSync as edges
use Rattle.sweep_groups.proofs.GroupOrder.TheSendSync as order
use Rattle.heap_core.specs.contracts.heap.Heap as heap
use Rattle.slice_driver.specs.contracts.collector.Collector as collector
use Rattle.slice_driver.proofs.collector.Phase.TheSendSync as phase

pub heap_send : IsSend heap.the_row
heap_send = search (
  crosses,
  view_send,
  declared_send,
  arenas.the_send,
  zones.the_send,
  wrappers.the_send,
  target_zones.the_send,
  roots.the_send,
  weak_maps.the_send,
  weak_refs.the_send,
  sendable,
) depth 20

pub collector_send : IsSend collector.the_row
collector_send = search (
  crosses,
  view_send,
  declared_send,
  heap_send,
  stack.the_send,
  lists.the_send,
  edges.the_send,
  order.the_send,
  phase.the_send,
  sendable,
) depth 20
