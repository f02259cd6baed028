-- The arenas of a group are handed to sweeping.
use Rattle.std.specs.Prelude.{◌≤◌, List, length, Option}
use Rattle.gz_names.specs.declared.zone_sets.ZoneSet.{ZoneSet}
use Rattle.cell_bits.specs.declared.jobs.Job.{Job}
use Rattle.heap_core.specs.Heap.{HeapState}
use Rattle.heap_core.specs.Sweeping.{jobs_of, with_handed}
use Rattle.slice_driver.specs.Advancing.{Advances}
use Rattle.slice_driver.specs.GroupEnd.{DropsDead}
use Rattle.slice_driver.specs.Units.{AreJobs}

-- the arenas of a group are handed out, what is dead is dropped, and the zones of the group go on
pub record HandsOut (h : HeapState) (g : ZoneSet) (jobs : Option (List Job)) (k : HeapState) : Type 0 where
  pub dropped : HeapState
  pub drops : DropsDead (with_handed h g.bits) g dropped
  pub goes : Advances dropped g.bits k
  pub jobs_are : AreJobs jobs (jobs_of g.bits 0 h.shape.arenas h.colours)
  pub fewer : length k.shape.weak.entries ≤ length h.shape.weak.entries
