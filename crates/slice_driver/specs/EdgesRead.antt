-- How many edges units read.
use Rattle.std.specs.Prelude.{◌+◌, ◌*◌, ◌-◌, ◌≤◌, ℕ, Bool, if◌then◌else◌}
use Rattle.heap_core.specs.Heap.{HeapState}
use Rattle.barriers.specs.Colours.{grays_outside}

-- this number of units read at most nine edges each, and eight for each gray cell outside marking zones that turned
-- black
abbrev pub ReadsFew : ℕ → ℕ → HeapState → ℕ → HeapState → Type 0
ReadsFew n read h now k = now + 8 * grays_outside k ≤ read + 8 * grays_outside h + 9 * n

-- so does a unit that was done; where none was, none was read
abbrev pub TriesFew : Bool → ℕ → HeapState → ℕ → HeapState → Type 0
TriesFew did read h now k = ReadsFew (if did then 1 else 0) read h now k

-- so do units that may end a group, with which zones stop marking
abbrev pub UnitsReadFew : ℕ → ℕ → HeapState → ℕ → HeapState → Type 0
UnitsReadFew n read h now k = now ≤ read + 9 * n + 8 * (grays_outside h - grays_outside k)
