-- The cells from which the marking of a collection begins.
use Rattle.std.specs.Prelude.{◌≡◌, ◌⊎◌, ◌↔◌, ℕ, ◌<◌, List, [], Option, Some, Contains}
use Rattle.std.specs.BTreeSet.{BTreeSet}
use Rattle.gz_names.specs.declared.names.Name.{Name}
use Rattle.colour_defs.specs.Graph.{GraphState, IsInZones, register_cell, slot_cell}
use Rattle.plain_graph.specs.Reach.{IsDone}
use Rattle.judge.specs.Cells.{Cells, HasCell}
use Rattle.judge.specs.Walks.{IsLeftBlack, Walks}

-- these are the names that meet P
abbrev pub IsListOf : List Name → (Name → Type 0) → Type 0
IsListOf names P = (x : Name) → Contains names x ↔ P x

-- a register holds a name, or a gray slot
abbrev pub IsInRegister : GraphState → Name → Type 0
IsInRegister g x = (r : ℕ) × (r < 16) × (register_cell g r ≡ Some x)

abbrev pub IsInSlot : GraphState → Name → Type 0
IsInSlot g x = (s : ℕ) × (s < 64) × (slot_cell g s ≡ Some x)

-- a present cell is of none of these zones
abbrev pub IsOutside : GraphState → List ℕ → Cells → Name → Type 0
IsOutside g zones cells x = HasCell cells x × (IsInZones g zones x → ⊥)

-- a name of none of these zones is among those that are left out and black
abbrev pub IsBlackOutside : GraphState → List ℕ → Option (BTreeSet Name) → Name → Type 0
IsBlackOutside g zones left x = (IsInZones g zones x → ⊥) × IsLeftBlack left x

-- a name is black, and of none of these zones
abbrev pub IsBlackElsewhere : GraphState → List ℕ → List Name → Name → Type 0
IsBlackElsewhere g zones black x = (IsInZones g zones x → ⊥) × Contains black x

-- as the preparation of these zones begins, what is left out and black is what is present and black in other zones
abbrev pub LeavesOut : GraphState → List ℕ → Cells → List Name → Option (BTreeSet Name) → Type 0
LeavesOut g zones cells black left =
    (x : Name) → IsLeftBlack left x ↔ (HasCell cells x × IsBlackElsewhere g zones black x)

-- what registers hold, and the present cells of other zones that are left out and black
abbrev pub AreBlackStarts : GraphState → List ℕ → Cells → Option (BTreeSet Name) → List Name → Type 0
AreBlackStarts g zones cells left names =
    IsListOf names (λ x. IsInRegister g x ⊎ (HasCell cells x × IsBlackOutside g zones left x))

-- what registers and gray slots hold, and all cells of other zones
abbrev pub AreLiveStarts : GraphState → List ℕ → Cells → List Name → Type 0
AreLiveStarts g zones cells names =
    IsListOf names (λ x. (IsInRegister g x ⊎ IsInSlot g x) ⊎ IsOutside g zones cells x)

-- the walks of a collection of these zones that begins in this graph, by what is left out and black
pub record IsBegun (g : GraphState) (zones : List ℕ) (cells : Cells) (left : Option (BTreeSet Name)) (w : Walks)
    : Type 0 where
  pub black : List Name
  pub live : List Name
  pub black_are : AreBlackStarts g zones cells left black
  pub live_are : AreLiveStarts g zones cells live
  pub black_done : IsDone g black w.black
  pub live_done : IsDone g live w.live
  pub woken : w.woken ≡ []
