-- A number that each unit of a collection lowers.
use Rattle.std.specs.Prelude.{◌+◌, ◌*◌, ℕ, Option, None, Some, length}
use Rattle.cell_bits.specs.declared.bits.Bits.{Bits}
use Rattle.heap_core.specs.Shape.{Shape}
use Rattle.slice_driver.specs.declared.collector.Uncleared.{Uncleared}
use Rattle.slice_driver.specs.Collector.{CollectorState, RunState}
use Rattle.slice_driver.specs.Remaining.{arenas_left}
use Rattle.slice_driver.specs.UnitsToCome.{units_to_come}

-- more units than marking and sweeping take, whatever marking begins with, by the size of the heap alone
abbrev pub most_of : Shape → ℕ
most_of s = 448 * length s.arenas + 6 * length s.weak.entries + 64 + 4 * length s.states

-- while a collection is being prepared: the unit that begins its marking, and what may come after it
abbrev pub starting_left : Shape → Option Uncleared → ℕ
starting_left s None = 0
starting_left s (Some uncleared) = 1 + most_of s

abbrev pub marking_left : Shape → Option RunState → ℕ
marking_left s None = 0
marking_left s (Some run) = starting_left s run.clearing

-- what is left of a collection, with these bits in flight: the units that are to come, the arenas that are still to
-- come in, and, while it is being prepared, what comes after that
abbrev pub units_left : CollectorState → (ℕ → Option Bits) → ℕ
units_left c flown = units_to_come c flown + arenas_left c.heap.shape c.heap.shape.arenas
    + marking_left c.heap.shape c.run
