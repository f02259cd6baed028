-- What a dump lists.
use Rattle.std.specs.Prelude.{◌≡◌, ◌⊎◌, ◌↔◌, List, [], ◌∷◌, Some, Contains}
use Rattle.std.specs.BTreeMap as tree
use Rattle.std.specs.List.{flat_map}
use Rattle.std.specs.BTreeMap.{BTreeMap}
use Rattle.gz_names.specs.declared.names.Name.{Name}
use Rattle.gz_names.specs.declared.names.Name.TheVariants.{Cell, Wrap}
use Rattle.gz_names.specs.declared.dumps.DumpLine.{DumpLine}
use Rattle.colour_defs.specs.Graph.{GraphState, value_of}
use Rattle.colour_defs.specs.World.{Has, IsPresent, World}
use Rattle.colour_defs.specs.Dumps.{IsDump, WeakLine}
use Rattle.plain_graph.specs.Indexed.{pair_cmp}
use Rattle.judge.specs.Cells.{Cells, HasCell}
use Rattle.judge.specs.Stages.{Shown}

-- a world of the definitions for which the judge's stands while no zone is marking and none is being prepared: they
-- have the same graph, the same cells, and the same ones of these are black
pub record Rests (g : GraphState) (s : Shown) (w : World) : Type 0 where
  pub graph_is : w.graph ≡ g
  pub present : (x : Name) → IsPresent w x ↔ HasCell s.cells x
  pub black : (x : Name) → HasCell s.cells x → (Has w.black x ↔ Contains s.black.names x)

-- these are the lines of a dump, by the definitions
abbrev pub ListsDump : GraphState → Shown → List DumpLine → Type 0
ListsDump g s lines = (w : World) → Rests g s w → IsDump w lines

-- an entry whose map and key are present
pub record IsEntry (g : GraphState) (cells : Cells) (m k v : Name) : Type 0 where
  pub found : value_of g m k ≡ Some v
  pub map_present : HasCell cells m
  pub key_present : HasCell cells k

abbrev pub Entries : Type 0
Entries = BTreeMap (Name × Name) Name

-- these are the entries whose maps and keys are present
abbrev pub HasEntries : GraphState → Cells → Entries → Type 0
HasEntries g cells found =
    (m k v : Name) → (tree.get pair_cmp found (m, k) ≡ Some v) ↔ IsEntry g cells m k v

-- the entry of a map and a key is added, if there is one and both are present
pub record AddsEntry (g : GraphState) (cells : Cells) (names : Name × Name) (old new : Entries) : Type 0 where
  pub only : (m k v : Name) → tree.get pair_cmp new (m, k) ≡ Some v
      → (tree.get pair_cmp old (m, k) ≡ Some v) ⊎ IsEntry g cells m k v
  pub stay : (m k v : Name) → IsEntry g cells m k v → tree.get pair_cmp old (m, k) ≡ Some v
      → tree.get pair_cmp new (m, k) ≡ Some v
  pub added : (v : Name) → IsEntry g cells names.0 names.1 v → tree.get pair_cmp new names ≡ Some v

-- an entry as it stands in a dump: its map is an object
abbrev pub weak_at : Name → Name → Name → List WeakLine
weak_at (Cell m) k v = record { map = m; key = k; value = v } ∷ []
weak_at (Wrap c t) k v = []

abbrev pub weak_of : (Name × Name) × Name → List WeakLine
weak_of e = weak_at e.0.0 e.0.1 e.1

abbrev pub weaks_of : List ((Name × Name) × Name) → List WeakLine
weaks_of entries = flat_map weak_of entries
