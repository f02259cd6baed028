-- The end of a group: the collector and the world before it, what its report lists, and the heap after it.
use Rattle.std.proofs.Common.{ℕ, Option, List}
use Rattle.gz_names.specs.declared.names.Name.{Name}
use Rattle.gz_names.specs.declared.zone_sets.ZoneSet.{ZoneSet}
use Rattle.cell_bits.specs.declared.bits.Bits.{Bits}
use Rattle.cell_bits.specs.declared.jobs.Job.{Job}
use Rattle.colour_defs.specs.Ends.{Lists}
use Rattle.colour_defs.specs.World.{Collection, World}
use Rattle.heap_core.specs.Heap.{HeapState}
use Rattle.slice_driver.specs.Collector.{CollectorState}
use Rattle.slice_driver.specs.GroupEnd.{AreJustFlown, EndsIn, IsEnded, IsGrayHere, IsReady}
use Rattle.slice_driver.specs.HandingOut.{HandsOut}
use Rattle.slice_driver.specs.Told.{IsTold}
use Rattle.slice_driver.proofs.group_end.Ready.{AtGroupEnd}

-- what the report of a group's end lists
pub record EndListed (h : HeapState) (g : ZoneSet) : Type 0 where
  pub grays : List Name
  pub told : List Name
  pub grays_are : Lists (IsGrayHere h g) grays
  pub told_are : Lists (IsTold h g.bits) told

-- the group that ends in a world, and the heap after it
pub record Ending (c : CollectorState) (w : World) (n : HeapState) : Type 0 where
  pub flown : ℕ → Option Bits
  pub collection : Collection
  pub group : ZoneSet
  pub rest : List ZoneSet
  pub ready : AtGroupEnd c flown w collection group rest
  pub lists : EndListed c.heap group
  pub ended : IsEnded c.heap group n

-- the group that ends, and the collector after it
pub record EndsOn (c d : CollectorState) (flying : ℕ → Option Bits) : Type 0 where
  pub group : ZoneSet
  pub rest : List ZoneSet
  pub ready : IsReady c group rest
  pub lists : EndListed c.heap group
  pub ends : EndsIn c group rest d
  pub flies : AreJustFlown d.heap.shape flying

-- the group that ends is handed out
pub record HandsGroup (c : CollectorState) (m : HeapState) : Type 0 where
  pub group : ZoneSet
  pub rest : List ZoneSet
  pub ready : IsReady c group rest
  pub jobs : Option (List Job)
  pub out : HandsOut c.heap group jobs m
