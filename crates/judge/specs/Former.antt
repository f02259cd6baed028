-- The graph as it stood when marking began, and the changes since.
use Rattle.std.specs.Prelude.{◌≡◌, true, false, List, [], ◌∷◌, Option, Some, None}
use Rattle.gz_names.specs.declared.names.Name.{Name}
use Rattle.colour_defs.specs.declared.graph.Object.{Object}
use Rattle.colour_defs.specs.Graph.{GraphState}
use Rattle.colour_defs.specs.Step.{step_of, with_register}
use Rattle.judge.specs.declared.former.Former.{Former}
use Rattle.judge.specs.declared.former.Change.{Change}
use Rattle.judge.specs.declared.former.Change.TheVariants as change
use Rattle.judge.specs.declared.former.Kept.{Kept}

-- a change as it is kept
abbrev pub kept_of : Change → Kept
kept_of k = record { change = k }

-- a graph after a change
abbrev pub changed : GraphState → Change → GraphState
changed g (change.Command c) = (step_of g c).0
changed g (change.Take r x) = with_register g r x

-- a graph after changes
abbrev pub graph_by : GraphState → List Kept → GraphState
graph_by g [] = g
graph_by g (k ∷ ks) = graph_by (changed g k.change) ks

-- the changes that were kept lead from the former graph to this one
pub record IsFormer (f : Former) (g : GraphState) : Type 0 where
  pub leads : graph_by f.graph f.kept.items ≡ g
  pub taken : f.is_kept ≡ false → f.kept.items ≡ []

-- a change is taken, or kept where the graph is to stay
pub record Takes (k : Change) (old new : Former) : Type 0 where
  pub former : (g : GraphState) → IsFormer old g → IsFormer new (changed g k)
  pub kept_is : new.is_kept ≡ old.is_kept
  pub graph_is : old.is_kept ≡ true → new.graph ≡ old.graph

-- the graph is to stay from here on
pub record Keeps (old new : Former) : Type 0 where
  pub former : (g : GraphState) → IsFormer old g → IsFormer new g
  pub kept_is : new.is_kept ≡ true
  pub graph_is : new.graph ≡ old.graph

-- the changes that were kept are done
pub record Releases (old new : Former) : Type 0 where
  pub former : (g : GraphState) → IsFormer old g → IsFormer new g
  pub kept_is : new.is_kept ≡ false

-- what an object holds, field by field
abbrev pub held_in : Option Object → List (Option Name)
held_in None = []
held_in (Some o) = o.fields
