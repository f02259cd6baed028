-- A bound on the units that are left of a collection, by how much the heap holds.
use Rattle.std.specs.Prelude.{◌+◌, ◌-◌, ◌*◌, ℕ, Option, None, Some, if◌then◌else◌, length, sum_by}
use Rattle.heap_core.specs.Heap.{HeapState}
use Rattle.slice_driver.specs.Collector.{CollectorState, RunState}
use Rattle.slice_driver.specs.Left.{most_of}
use Rattle.slice_driver.specs.declared.collector.Uncleared.{Uncleared}

-- while a collection is being prepared: the arenas that are still to be cleared, the unit that begins its marking, and
-- what may come after it
abbrev pub preparing_bound : HeapState → Uncleared → ℕ
preparing_bound h u = (u.end - u.from) + length h.shape.arenas + 1 + most_of h.shape

-- from the beginning of marking on: each slot may be scanned in either colour, noted and taken off a list; ten units an
-- entry; what is buffered; two steps a zone; each arena may be swept; and one more, so that this is never 0
abbrev pub marking_bound : HeapState → ℕ
marking_bound h =
    257 * length h.shape.arenas + 10 * length h.shape.weak.entries + sum_by length h.buffers + 2 * length h.shape.states
    + 1

-- till the groups are formed: no more looks at wrappers than there are slots, and a step for each zone
abbrev pub grouping_bound : HeapState → ℕ
grouping_bound h = 64 * length h.shape.arenas + 64

abbrev pub run_bound : HeapState → RunState → Option Uncleared → ℕ
run_bound h run None = marking_bound h + (if run.formed then 0 else grouping_bound h)
run_bound h run (Some u) = preparing_bound h u

abbrev pub bound_of : HeapState → Option RunState → ℕ
bound_of h None = 0
bound_of h (Some run) = run_bound h run run.clearing

-- by how far the collection is that runs, and 0 where none does
abbrev pub units_bound : CollectorState → ℕ
units_bound c = bound_of c.heap c.run
