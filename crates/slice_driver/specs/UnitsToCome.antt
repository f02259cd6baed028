-- How many units the collection that runs may still take at most, but for the arenas that come in.
use Rattle.std.specs.Prelude.{◌≡◌, ◌+◌, ◌≤◌, ◌&&◌, ℕ, zero, suc, Bool, false, List, [], ◌∷◌, ◌++◌, length, filter}
use Rattle.std.specs.Prelude.{sum_by}
use Rattle.std.specs.Prelude.{Option, Some, None, is_some, if◌then◌else◌}
use Rattle.gz_names.specs.declared.names.Name.{Name}
use Rattle.gz_names.specs.declared.numbers.Place.{Place}
use Rattle.cell_bits.specs.declared.bits.Bits.{Bits}
use Rattle.mark_stack.specs.Stack.{Piles}
use Rattle.gray_lists.specs.Incoming.{Incoming, waiting_count}
use Rattle.colour_defs.specs.Units.{Tally, unit_limit}
use Rattle.colour_defs.specs.World.{Collection, Preparation, World, is_wrapper}
use Rattle.heap_core.specs.Shape.{Shape, cell_of, is_marking, name_at}
use Rattle.heap_core.specs.Heap.{HeapState}
use Rattle.barriers.specs.Scans.{gray_scans}
use Rattle.marker.specs.UnitsToCome.{units_at}
use Rattle.slice_driver.specs.Collector.{CollectorState, heap_with}
use Rattle.slice_driver.specs.Remaining.{clearing_left, grouping_left, steps_left}

-- the places of the slots below a number in an arena
unfoldable pub slots_of : ℕ → ℕ → List Place
slots_of arena zero = []
slots_of arena (suc n) = (arena, n) ∷ slots_of arena n

-- the places of all slots of the arenas below a number
unfoldable pub places_below : ℕ → List Place
places_below zero = []
places_below (suc arena) = slots_of arena 64 ++ places_below arena

-- the places of the present cells, each once
abbrev pub present_places : Shape → List Place
present_places s = filter (λ p. is_some (cell_of s p)) (places_below (length s.arenas))

abbrev pub is_wrapper_named : Option Name → Bool
is_wrapper_named None = false
is_wrapper_named (Some x) = is_wrapper x

-- whether the cell at a place may be noted for the zone of what it leads to: a wrapper of a marking zone
abbrev pub may_be_noted : Shape → Place → Bool
may_be_noted s x = is_marking s x && is_wrapper_named (name_at s x)

-- how often a wrapper may still be noted: as it is scanned in gray
abbrev pub notes : HeapState → Piles → Place → ℕ
notes h p x = if may_be_noted h.shape x then gray_scans h p x else 0

-- what is to come of marking: scans of the present cells and looks at entries, wrappers that are to be noted or wait on
-- a list, and what is buffered
abbrev pub marking_to_come : HeapState → Piles → Incoming → ℕ
marking_to_come h p lists =
    units_at h p (present_places h.shape)
    + (sum_by (notes h p) (present_places h.shape) + (waiting_count lists + sum_by length h.buffers))

-- what is to come of the collection that runs: its marking, its grouping, and the steps of its zones; or, while it is
-- being prepared, the arenas that are still to be cleared
unfoldable pub units_to_come : CollectorState → (ℕ → Option Bits) → ℕ
units_to_come c flown =
    marking_to_come (heap_with c flown) c.stack c.lists
    + (grouping_left c.heap.shape c.edges c.run + steps_left c.heap.shape.states)
    + clearing_left c.heap.shape c.run

-- what was done and what is to come is within the bound on units
abbrev pub IsWithinBound : Tally → ℕ → Type 0
IsWithinBound t n = t.spent + n ≤ unit_limit t

-- so it is of the collection that runs in a world; and of one that is being prepared within its arenas
pub record IsWithin (c : CollectorState) (flown : ℕ → Option Bits) (w : World) : Type 0 where
  pub marking : (k : Collection) → w.collection ≡ Some k → IsWithinBound k.tally (units_to_come c flown)
  pub preparing : (p : Preparation) → w.preparing ≡ Some p → p.spent + units_to_come c flown ≤ p.arenas
