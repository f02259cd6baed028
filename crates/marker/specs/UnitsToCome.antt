-- How many units are still to come at cells and at entries of weak maps.
use Rattle.std.specs.Prelude.{◌+◌, ◌-◌, ℕ, Bool, true, false, List, sum_by, if◌then◌else◌}
use Rattle.gz_names.specs.declared.numbers.Place.{Place}
use Rattle.mark_stack.specs.Stack.{Piles}
use Rattle.zones.specs.declared.states.State.{State}
use Rattle.zones.specs.declared.states.State.TheVariants as state
use Rattle.weak_maps.specs.Delegates.{DelegateRow}
use Rattle.weak_maps.specs.declared.entries.WeakEntry.{WeakEntry}
use Rattle.heap_core.specs.Shape.{is_marking, state_of}
use Rattle.heap_core.specs.Heap.{HeapState, colour_of}
use Rattle.barriers.specs.Scans.{black_scans, black_turns, gray_scans}
use Rattle.marker.specs.Looks.{looks_now}

-- how often a cell may still be scanned: never outside marking zones
abbrev pub scans : HeapState → Piles → Place → ℕ
scans h p x = if is_marking h.shape x then black_scans h p x + gray_scans h p x else 0

-- a zone is marked black only
abbrev pub is_black_only : State → Bool
is_black_only state.NoGC = false
is_black_only state.Prepare = false
is_black_only state.MarkBlackOnly = true
is_black_only state.MarkBlackAndGray = false
is_black_only state.Sweep = false
is_black_only state.Finished = false

-- how often the entries of a map may still be started for it: once for each scan of it, and once more as its zone goes
-- on to gray, if it is black by then
abbrev pub map_starts : HeapState → Piles → Place → ℕ
map_starts h p m =
    scans h p m + (if is_black_only (state_of h.shape m) then 1 - black_turns (colour_of h m) else 0)

-- how often an entry may still be started for its map and its key
abbrev pub starts_of : HeapState → Piles → WeakEntry → ℕ
starts_of h p entry = map_starts h p entry.map + scans h p entry.key

-- how often it may still be started for its delegate
abbrev pub row_starts : HeapState → Piles → DelegateRow → ℕ
row_starts h p row = scans h p row.target

-- the scans of these cells, the looks that are to come, and one for each entry that may still be started
unfoldable pub units_at : HeapState → Piles → List Place → ℕ
units_at h p cells =
    sum_by (scans h p) cells
    + (looks_now h.looks
    + (sum_by (starts_of h p) h.shape.weak.entries + sum_by (row_starts h p) h.shape.weak.delegates.rows))
