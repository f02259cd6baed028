-- The room that a command wants on the lists.
use Rattle.std.specs.Prelude.{◌≡◌, ◌≤◌, ◌+◌, ◌*◌, ◌==◌, ℕ, length, Option, Some, None, if◌then◌else◌}
use Rattle.heap_core.specs.Heap.{HeapState}
use Rattle.heap_core.specs.Changes.{next_place}
use Rattle.slice_driver.specs.Collector.{CollectorState}

-- how many arenas there are at most after a cell was made in a zone, if one was made
abbrev pub arenas_after : HeapState → Option ℕ → ℕ
arenas_after h None = length h.colours
arenas_after h (Some zone) = length h.colours + (if (next_place h.shape zone).0 == length h.shape.arenas then 1 else 0)

-- room for the slots of this number of arenas
pub record IsRoomy (c : CollectorState) (arenas : ℕ) : Type 0 where
  pub lists : 64 * arenas ≤ c.lists.room

-- nothing changed but that there may be more room
pub record Widens (c d : CollectorState) : Type 0 where
  pub rest : d ≡ record c { lists = record c.lists { room = d.lists.room } }
  pub lists : c.lists.room ≤ d.lists.room
