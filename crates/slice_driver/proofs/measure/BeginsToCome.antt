-- As marking begins, what is to come is within the bound on units.
use Rattle.std.proofs.Common.{◌≡◌, ◌+◌, ◌*◌, ◌≤◌, ℕ, [], Contains, Option, refl, arith, length, count_by, sum_by}
use Rattle.std.proofs.Common.{if◌then◌else◌}
use Rattle.gz_names.specs.declared.numbers.Place.{Place}
use Rattle.cell_bits.specs.declared.bits.Bits.{Bits}
use Rattle.colour_defs.specs.Units.{Tally, unit_limit}
use Rattle.mark_stack.specs.Stack.{Piles}
use Rattle.gray_lists.specs.Incoming.{Incoming, waiting_count}
use Rattle.heap_core.specs.Shape.{Shape, is_marking}
use Rattle.heap_core.specs.Heap.{HeapState}
use Rattle.barriers.specs.Scans.{AreScannedOnce, gray_scans}
use Rattle.marker.specs.Looks.{looks_now}
use Rattle.marker.proofs.UnitsToCome.{at_most, sum_where_few, where_both}
use Rattle.weak_maps.specs.Delegates.{DelegateRow}
use Rattle.weak_maps.specs.declared.entries.WeakEntry.{WeakEntry}
use Rattle.slice_driver.specs.Collector.{CollectorState, heap_with}
use Rattle.slice_driver.specs.Remaining.{clearing_left, grouping_left, steps_left}
use Rattle.slice_driver.specs.UnitsToCome.{marking_to_come, may_be_noted, notes, present_places}
use Rattle.slice_driver.specs.UnitsToCome.{units_to_come}

-- each cell may be scanned once at most in either colour, none is on the gray pile, no look is to come, and nothing
-- waits on a list
pub record IsUnscanned (h : HeapState) (p : Piles) (lists : Incoming) : Type 0 where
  pub once : AreScannedOnce h p
  pub none_gray : p.gray ≡ []
  pub one_zone : (e : WeakEntry) → Contains h.shape.weak.entries e
      → is_marking h.shape e.key ≡ is_marking h.shape e.map
  pub looked : looks_now h.looks ≡ 0
  pub waiting : waiting_count lists ≡ 0

-- the cells, entries and wrappers of marking zones, and the rows whose targets are there, are no more than were counted
pub record AreCounted (s : Shape) (t : Tally) : Type 0 where
  pub few_cells : count_by (is_marking s) (present_places s) ≤ t.cells
  pub few_entries : count_by (λ e. is_marking s e.map) s.weak.entries ≤ t.entries
  pub few_rows : count_by (λ (r : DelegateRow). is_marking s r.target) s.weak.delegates.rows ≤ t.entries
  pub few_wrappers : count_by (may_be_noted s) (present_places s) ≤ t.wrappers

-- so twice the cells, six times the entries, and the wrappers
pub begun_marking : (h : HeapState) (p : Piles) (lists : Incoming) (t : Tally) → IsUnscanned h p lists
    → AreCounted h.shape t
    → marking_to_come h p lists ≤ 2 * t.cells + 6 * t.entries + t.wrappers + sum_by length h.buffers
begun_marking h p lists t unscanned counted =
    let units = at_most h p (present_places h.shape) unscanned.once unscanned.none_gray unscanned.one_zone
    unscanned.looked in
    let noted = sum_where_few 1 (notes h p) (may_be_noted h.shape) (present_places h.shape) (λ x c. few x) in
    omega (
      arith,
      units,
      noted,
      unscanned.waiting,
      counted.few_cells,
      counted.few_entries,
      counted.few_rows,
      counted.few_wrappers,
    )
  where
    few : (x : Place) → notes h p x ≤ (if may_be_noted h.shape x then 1 else 0)
    few x = where_both (may_be_noted h.shape x) (may_be_noted h.shape x) (gray_scans h p x) 1 refl
        (unscanned.once.gray x)

-- and with a look at each wrapper, a grouping step and two more steps for each zone, and the unit that begins marking,
-- it is within the bound
pub begun_within : (c : CollectorState) (flown : ℕ → Option Bits) (t : Tally)
    → IsUnscanned (heap_with c flown) c.stack c.lists → AreCounted c.heap.shape t
    → sum_by length c.heap.buffers ≤ 64 + t.outside
    → grouping_left c.heap.shape c.edges c.run ≤ t.wrappers + t.zones → steps_left c.heap.shape.states ≤ 2 * t.zones
    → clearing_left c.heap.shape c.run ≡ 0 → 1 ≤ t.zones → t.arenas + 1 + units_to_come c flown ≤ unit_limit t
unfolding units_to_come
begun_within c flown t unscanned counted buffered grouping steps cleared some =
    let marking = begun_marking (heap_with c flown) c.stack c.lists t unscanned counted in
    omega (arith, marking, buffered, grouping, steps, cleared, some)
