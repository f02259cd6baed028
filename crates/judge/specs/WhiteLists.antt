-- How many white cells wait to be swept in an arena.
use Rattle.std.specs.Prelude.{◌≡◌, ◌≤◌, ℕ, List, Some, length}
use Rattle.std.specs.BTreeMap as tree
use Rattle.std.specs.BTreeMap.{BTreeMap}
use Rattle.std.specs.Ordering.{nat_cmp}
use Rattle.gz_names.specs.declared.names.Name.{Name}

-- names by arenas
abbrev pub WhiteLists : Type 0
WhiteLists = BTreeMap ℕ (List Name)

-- no arena has more than it has slots
abbrev pub AreShort : WhiteLists → Type 0
AreShort lists = (a : ℕ) (names : List Name) → tree.get nat_cmp lists a ≡ Some names → length names ≤ 64
