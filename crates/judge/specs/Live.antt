-- While a collection marks, what it has found live is present.
use Rattle.std.specs.Prelude.{◌≡◌, ℕ, List, Some}
use Rattle.gz_names.specs.declared.names.Name.{Name}
use Rattle.gz_names.specs.declared.names.Name.TheVariants.{Cell, Wrap}
use Rattle.gz_names.specs.declared.numbers.CompNo.{CompNo}
use Rattle.colour_defs.specs.Closure.{HasEdge}
use Rattle.colour_defs.specs.Graph.{GraphState, IsInZones, comp_of, value_of}
use Rattle.colour_defs.specs.Laws.{IsMarking, IsWellFormed}
use Rattle.colour_defs.specs.World.{Collection, IsPresent, LiveClosure, World}

-- what a set of names leads to in a graph is in the set
pub record IsFollowed (g : GraphState) (P : Name → Type 0) : Type 0 where
  pub edges : (x y : Name) → P x → HasEdge g x y → P y
  pub values : (m k v : Name) → value_of g m k ≡ Some v → P m → P k → P v
  pub keys : (m v : Name) (c : CompNo) (t : ℕ) → value_of g m (Wrap c t) ≡ Some v → P m → P (Cell t) → P (Wrap c t)

-- what a collection that marks has found live is present; so is what is present leads to, in the graph as it stood when
-- marking began; and this graph names nothing that was not made
pub record IsLive (w : World) (k : Collection) : Type 0 where
  pub formed : IsWellFormed k.snapshot
  pub made : (x : Name) (c : CompNo) → comp_of k.snapshot x ≡ Some c → comp_of w.graph x ≡ Some c
  pub followed : IsFollowed k.snapshot (IsPresent w)
  pub live : (x : Name) → LiveClosure k x → IsPresent w x

-- the invariant of every lawful run that stands beside `IsValid`
pub record IsValidLive (w : World) : Type 0 where
  pub marking : (k : Collection) → w.collection ≡ Some k → IsMarking k → IsLive w k

-- what a set of names of none of these zones leads to in a graph is in the set, if it is of none of them
pub record IsFollowedOut (g : GraphState) (zones : List ℕ) (P : Name → Type 0) : Type 0 where
  pub inside : (x : Name) → P x → IsInZones g zones x → ⊥
  pub edges : (x y : Name) → P x → HasEdge g x y → (IsInZones g zones y → ⊥) → P y
  pub values : (m k v : Name) → value_of g m k ≡ Some v → P m → P k → (IsInZones g zones v → ⊥) → P v
  pub keys : (m v : Name) (c : CompNo) (t : ℕ) → value_of g m (Wrap c t) ≡ Some v → P m → P (Cell t)
      → (IsInZones g zones (Wrap c t) → ⊥) → P (Wrap c t)
