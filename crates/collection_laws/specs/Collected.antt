-- What is there after a collection of all zones.
use Rattle.std.specs.Prelude.{◌≡◌, ◌↔◌, ◌⊎◌, ◌<◌, ℕ, List, [], Some, Contains}
use Rattle.gz_names.specs.declared.names.Name.{Name}
use Rattle.colour_defs.specs.Graph.{GraphState}
use Rattle.colour_defs.specs.Closure.{Closure}
use Rattle.colour_defs.specs.World.{Has, World, IsIdle, IsPresent}

-- what the registers reach
abbrev pub IsUsed : GraphState → Name → Type 0
IsUsed g = Closure g (λ x. Contains g.registers (Some x))

-- what the registers and the gray slots reach
abbrev pub IsKept : GraphState → Name → Type 0
IsKept g = Closure g (λ x. Contains g.registers (Some x) ⊎ Contains g.slots (Some x))

-- what only the gray slots keep
abbrev pub IsGray : GraphState → Name → Type 0
IsGray g x = IsKept g x × (IsUsed g x → ⊥)

-- exactly the zones that were made
abbrev pub AreAllZones : GraphState → List ℕ → Type 0
AreAllZones g zones = (z : ℕ) → Contains zones z ↔ (z < g.zones)

-- no collection runs and no arena is out; present is exactly what is kept, and black exactly what is used
pub record IsCollected (w : World) : Type 0 where
  pub idle : IsIdle w
  pub none_out : w.out ≡ []
  pub present : (x : Name) → IsPresent w x ↔ IsKept w.graph x
  pub black : (x : Name) → Has w.black x ↔ IsUsed w.graph x
  pub gray : (x : Name) → (IsPresent w x × (Has w.black x → ⊥)) ↔ IsGray w.graph x
