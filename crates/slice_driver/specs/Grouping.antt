-- Wrappers are looked at, and the groups of a collection are formed.
use Rattle.std.specs.Prelude.{◌≡◌, ℕ, true, false, List, [], Some, None}
use Rattle.gz_names.specs.Zones.{HasZone}
use Rattle.gz_names.specs.declared.numbers.Place.{Place}
use Rattle.gz_names.specs.declared.zone_sets.ZoneSet.{ZoneSet}
use Rattle.heap_core.specs.Shape.{IsDelegate, is_marking, out_of}
use Rattle.zone_edges.specs.Groups.{AreComponents}
use Rattle.zone_edges.specs.Looks.{AreAllLookedAt, LooksAtNext}
use Rattle.barriers.specs.Reached.{HasEntry}
use Rattle.barriers.specs.Colours.{IsBlack}
use Rattle.slice_driver.specs.Collector.{CollectorState, RunState}

-- one wrapper more was looked at, where black marking has nothing left to do and no arena is out; nothing else changed
pub record LooksIn (c d : CollectorState) : Type 0 where
  pub kept : (a : ℕ) → out_of c.heap.shape a ≡ None
  pub black_empty : c.stack.black ≡ []
  pub black_fixed : (m k v : Place) → HasEntry c.heap.shape m k v → IsBlack c.heap m → IsBlack c.heap k
      → is_marking c.heap.shape v ≡ true → IsBlack c.heap v
  pub keys_fixed : (m k v d : Place) → HasEntry c.heap.shape m k v → IsDelegate c.heap.shape k d → IsBlack c.heap m
      → IsBlack c.heap d → IsBlack c.heap k
  pub looks : LooksAtNext c.heap c.edges d.edges
  pub zones_are : d.edges.zones ≡ c.edges.zones
  pub stepped_is : d.edges.stepped ≡ c.edges.stepped
  pub rest : d ≡ record c { edges = d.edges }

-- the groups of a collection of some zones are formed, as each wrapper was looked at: they are the components of the
-- noted edges
pub record FormsIn (c : CollectorState) (groups : List ZoneSet) (d : CollectorState) : Type 0 where
  pub run : RunState
  pub running : c.run ≡ Some run
  pub unformed : run.formed ≡ false
  pub started : run.clearing ≡ None
  pub some_zone : (z : ℕ) × HasZone run.zones.bits z
  pub looked : AreAllLookedAt c.heap.shape c.edges
  pub components : AreComponents c.edges.sources c.edges.zones groups
  pub heap_is : d.heap ≡ c.heap
  pub stack_is : d.stack ≡ c.stack
  pub lists_is : d.lists ≡ c.lists
  pub groups_is : d.groups ≡ groups
  pub run_is : d.run ≡ Some (record run { formed = true })
