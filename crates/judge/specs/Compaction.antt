-- What a compaction makes of the places of the cells and of the arenas.
use Rattle.std.specs.Prelude.{◌≡◌, ◌↔◌, ◌⊎◌, ℕ, zero, suc, ◌+◌, ◌<◌, length, List, [], ◌∷◌, ◌++◌, Some, Contains}
use Rattle.std.specs.Prelude.{is_some, if◌then◌else◌}
use Rattle.std.specs.BTreeMap as tree
use Rattle.std.specs.FinMap as map
use Rattle.std.specs.List.Sorted.{IsStrictlySortedBy}
use Rattle.std.specs.Map.{keys_of}
use Rattle.gz_names.specs.declared.names.Name.{Name}
use Rattle.gz_names.specs.declared.numbers.Place.{Place}
use Rattle.colour_defs.specs.Compaction.{Compacts, IsBefore}
use Rattle.colour_defs.specs.Graph.{GraphState}
use Rattle.colour_defs.specs.World.{IsIdle, World}
use Rattle.plain_graph.specs.Indexed.{order_of}
use Rattle.judge.specs.Cells.{Cells}
use Rattle.judge.specs.Places.{IsEmpty, Lying, place_order}
use Rattle.judge.specs.Stages.{Shown}
use Rattle.judge.specs.declared.arenas.Arenas.{Arenas}

-- a world of the definitions for which the judge's stands while no collection runs: they have the same graph, the same
-- arenas, and the same cells in the same places
pub record Lies (g : GraphState) (s : Shown) (w : World) : Type 0 where
  pub idle : IsIdle w
  pub graph_is : w.graph ≡ g
  pub owners_are : w.owner ≡ s.owners
  pub places_are : (x : Name) → map.get w.places x ≡ tree.get order_of s.cells x

-- a zone is compacted: in each such world this many cells move and this many arenas are given up, by the definitions,
-- and no others; the cells then lie, and the arenas are, as they do in the world after it
pub record Packs (g : GraphState) (zone : ℕ) (old : Shown) (moved given_up : ℕ) (new : Shown) : Type 0 where
  pub lawful : (w : World) → Lies g old w → (v : World) × Compacts w zone moved given_up v × Lies g new v
  pub only : (w : World) (v : World) (m n : ℕ) → Lies g old w → Compacts w zone m n v → (m ≡ moved) × (n ≡ given_up)
  pub new_is : new ≡ record old { owners = new.owners; cells = new.cells }

-- these are the cells that lie in some arenas
abbrev pub AreLying : List ℕ → Cells → Lying → Type 0
AreLying arenas cells lying =
    (p : Place) (x : Name)
    → (tree.get place_order lying p ≡ Some x) ↔ ((tree.get order_of cells x ≡ Some p) × Contains arenas p.0)

-- a cell is added, if it lies in one of these arenas
abbrev pub Lays : List ℕ → Name → Place → Lying → Lying → Type 0
Lays arenas x p old new =
    (Contains arenas p.0 × tree.Updates place_order old new p (Some x) × tree.IsOrdered place_order new)
    ⊎ ((Contains arenas p.0 → ⊥) × (new ≡ old))

-- the slots of an arena that are not taken, of this number of slots from one on
unfoldable pub free_slots : Lying → ℕ → ℕ → ℕ → List Place
free_slots taken arena slot zero = []
free_slots taken arena slot (suc count) =
    if is_some (tree.get place_order taken (arena, slot)) then free_slots taken arena (slot + 1) count
    else (arena, slot) ∷ free_slots taken arena (slot + 1) count

-- those of some arenas
unfoldable pub free_in : Lying → List ℕ → List Place
free_in taken [] = []
free_in taken (arena ∷ arenas) = free_slots taken arena 0 64 ++ free_in taken arenas

-- cells go one by one to these places, a cell to each
abbrev pub GoTo : List (Place × Name) → List Place → Cells → Cells → Type 0
GoTo [] places old new = new ≡ old
GoTo (e ∷ es) [] old new = ⊥
GoTo (e ∷ es) (p ∷ ps) old new =
    (after : Cells) × tree.Updates order_of old after e.1 (Some p) × GoTo es ps after new

-- places in order
abbrev pub AreSorted : List Place → Type 0
AreSorted [] = Unit {0}
AreSorted (p ∷ ps) = ((q : Place) → Contains ps q → IsBefore p q) × AreSorted ps

-- these cells, which lie in these places, may go one by one to some others, in which none lies
pub record MayGo (cells : Cells) (a : Arenas) (es : List (Place × Name)) (places : List Place) : Type 0 where
  pub there : (p : Place) (x : Name) → Contains es (p, x) → tree.get order_of cells x ≡ Some p
  pub ordered : IsStrictlySortedBy place_order (keys_of es)
  pub free : (q : Place) → Contains places q → (q.0 < length a.arenas.items) × (q.1 < 64) × IsEmpty a.lying q
  pub sorted : AreSorted places
