-- Sets of compartments, and which have a wrapper that waits.
use Rattle.std.specs.Prelude.{◌≢◌, ◌↔◌, ◌/◌, ◌%◌, ◌<◌, ◌≤◌, ℕ, List, Option, None, slice_index_or}
use Rattle.gz_names.specs.Zones.{HasZone}

-- a compartment is in a set where its bit is set, in the word of its 64
abbrev pub HasComp : List ℕ → ℕ → Type 0
HasComp words comp = HasZone (slice_index_or words (comp / 64) 0) (comp % 64)

-- each compartment of a set is below an end
abbrev pub IsEnd : List ℕ → ℕ → Type 0
IsEnd words end = (end ≤ 256) × ((c : ℕ) → HasComp words c → c < end)

-- a set has the compartments whose lists have a first wrapper
abbrev pub AreHeaded : List (Option ℕ) → List ℕ → Type 0
AreHeaded heads words = (c : ℕ) → HasComp words c ↔ (slice_index_or heads c None ≢ None)
