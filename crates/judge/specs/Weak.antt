-- What weak slots name, and the cells that are watched.
use Rattle.std.specs.Prelude.{◌≡◌, ◌↔◌, ℕ, Bool, true, false, IsTrue, List, Option, Some, None, Contains, is_some}
use Rattle.std.specs.Prelude.{slice_set, slice_index_or, if◌then◌else◌}
use Rattle.std.specs.BTreeMap as tree
use Rattle.std.specs.BTreeSet as sorted
use Rattle.gz_names.specs.declared.names.Name.{Name}
use Rattle.plain_graph.specs.Indexed.{order_of}
use Rattle.judge.specs.Cells.{Cells}
use Rattle.judge.specs.declared.weak.WeakNames.{WeakNames}

-- what a weak slot names
abbrev pub weak_slot : WeakNames → ℕ → Option Name
weak_slot weak q = slice_index_or weak.slots q None

-- this is in a weak slot
abbrev pub with_weak_slot : WeakNames → ℕ → Option Name → WeakNames
with_weak_slot weak q x = record weak { slots = slice_set weak.slots q x }

-- a name that may be there, if it is present
abbrev pub if_present : Cells → Option Name → Option Name
if_present cells None = None
if_present cells (Some x) = if is_some (tree.get order_of cells x) then Some x else None

-- whether a cell is watched
abbrev pub is_watched : WeakNames → Name → Bool
is_watched weak x = sorted.contains order_of weak.watched x

abbrev pub IsWatched : WeakNames → Name → Type 0
IsWatched weak x = IsTrue (is_watched weak x)

-- a cell is watched, or is watched no longer, and all else stays as it is
pub record Watches (old : WeakNames) (x : Name) (new : WeakNames) : Type 0 where
  pub slots_are : new.slots ≡ old.slots
  pub here : is_watched new x ≡ true
  pub others : (y : Name) → (x ≡ y → ⊥) → is_watched new y ≡ is_watched old y

pub record Unwatches (old : WeakNames) (x : Name) (new : WeakNames) : Type 0 where
  pub slots_are : new.slots ≡ old.slots
  pub here : is_watched new x ≡ false
  pub others : (y : Name) → (x ≡ y → ⊥) → is_watched new y ≡ is_watched old y

-- these names are watched no longer
abbrev pub AreUnwatched : WeakNames → List Name → WeakNames → Type 0
AreUnwatched old names new = (x : Name) → IsWatched new x ↔ (IsWatched old x × (Contains names x → ⊥))
