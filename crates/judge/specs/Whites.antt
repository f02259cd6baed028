-- The white cells of groups that have ended, until they are swept, by the arena in which they lay.
use Rattle.std.specs.Prelude.{◌≡◌, ℕ, Bool, false, List, [], ◌∷◌, ◌++◌, Option, Some, None, nat_eq}
use Rattle.std.specs.Prelude.{if◌then◌else◌}
use Rattle.std.specs.BTreeMap as tree
use Rattle.std.specs.List.{filter}
use Rattle.std.specs.Ordering.{nat_cmp}
use Rattle.gz_names.specs.declared.names.Name.{Name}
use Rattle.gz_names.specs.declared.numbers.Place.{Place}
use Rattle.plain_graph.specs.Indexed.{order_of}
use Rattle.judge.specs.Cells.{Cells}
use Rattle.judge.specs.declared.whites.Whites.{Whites}

abbrev pub names_or_none : Option (List Name) → List Name
names_or_none None = []
names_or_none (Some names) = names

-- the white cells of an arena
abbrev pub whites_in : Whites → ℕ → List Name
whites_in whites arena = names_or_none (tree.get nat_cmp whites.names arena)

abbrev pub is_at : Option Place → ℕ → Bool
is_at None arena = false
is_at (Some place) arena = nat_eq place.0 arena

-- whether a cell lies in an arena
abbrev pub lies_in : Cells → ℕ → Name → Bool
lies_in cells arena x = is_at (tree.get order_of cells x) arena

-- each of these names is in the list of the arena in which it lies
abbrev pub AreByArena : Cells → List Name → Whites → Type 0
AreByArena cells names whites = (arena : ℕ) → whites_in whites arena ≡ filter (lies_in cells arena) names

-- a white cell more, if it has a place
abbrev pub Adds : Whites → Option Place → Name → Whites → Type 0
Adds old place x new =
    (arena : ℕ) → whites_in new arena ≡ whites_in old arena ++ (if is_at place arena then x ∷ [] else [])

-- an arena has no white cells from here on
pub record Clears (old : Whites) (arena : ℕ) (new : Whites) : Type 0 where
  pub here : whites_in new arena ≡ []
  pub others : (other : ℕ) → (arena ≡ other → ⊥) → whites_in new other ≡ whites_in old other
