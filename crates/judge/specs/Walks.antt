-- What a collection has found black and live, and what is black before it begins to mark.
use Rattle.std.specs.Prelude.{◌≡◌, ◌⊎◌, ℕ, List, [], ◌++◌, Option, Some, None, Contains, IsTrue}
use Rattle.std.specs.BTreeSet as sorted
use Rattle.std.specs.BTreeSet.{BTreeSet}
use Rattle.gz_names.specs.declared.names.Name.{Name}
use Rattle.colour_defs.specs.Graph.{GraphState, IsInZones}
use Rattle.colour_defs.specs.Closure.{Closure}
use Rattle.plain_graph.specs.Indexed.{order_of}
use Rattle.plain_graph.specs.Reach.{Follows, IsDone, WalkState}
use Rattle.judge.specs.declared.collection.Collection.{Collection}
use Rattle.judge.specs.declared.world.Phase.{Phase}
use Rattle.judge.specs.declared.world.Phase.TheVariants as phase

-- two walks, and the names woken since marking began that are in neither yet
pub record Walks : Type 0 where
  pub black : WalkState
  pub live : WalkState
  pub woken : List Name

abbrev pub walks_in : Collection → Walks
walks_in k = record { black = k.black; live = k.live; woken = k.woken.items }

abbrev pub walks_of : Phase → Option Walks
walks_of phase.Idle = None
walks_of (phase.Preparing p) = None
walks_of (phase.Collecting k) = Some (walks_in k)

-- what is black of the zones that a collection leaves out, while its own are being prepared
abbrev pub left_out_of : Phase → Option (BTreeSet Name)
left_out_of phase.Idle = None
left_out_of (phase.Preparing p) = Some p.black
left_out_of (phase.Collecting k) = None

abbrev pub IsLeftBlack : Option (BTreeSet Name) → Name → Type 0
IsLeftBlack None x = ⊥
IsLeftBlack (Some names) x = IsTrue (sorted.contains order_of names x)

-- what is black by what a collection has found so far, beside what is black where none runs
abbrev pub IsBlackBy : Phase → WalkState → Name → Type 0
IsBlackBy phase.Idle black x = Contains black.names x
IsBlackBy (phase.Preparing p) black x = IsLeftBlack (Some p.black) x
IsBlackBy (phase.Collecting k) black x = Contains k.black.names x

-- a name is of these zones, or is black
abbrev pub TurnsBlack : GraphState → List ℕ → Phase → WalkState → Name → Type 0
TurnsBlack g zones p black x = IsInZones g zones x ⊎ IsBlackBy p black x

-- what was found black in this graph, and what live
abbrev pub IsFoundBlack : GraphState → Walks → Name → Type 0
IsFoundBlack former w = Closure former (λ s. Contains w.black.names s ⊎ Contains w.woken s)

abbrev pub IsFoundLive : GraphState → Walks → Name → Type 0
IsFoundLive former w = Closure former (λ s. Contains w.live.names s ⊎ Contains w.woken s)

-- a walk goes on from these names too, and is done
abbrev pub GoesOnFrom : GraphState → List Name → WalkState → WalkState → Type 0
GoesOnFrom former more old new =
    (starts : List Name) → Follows former starts old → IsDone former (starts ++ more) new

-- both walks are done, from the names woken too
pub record CatchesUp (former : GraphState) (old new : Walks) : Type 0 where
  pub black : GoesOnFrom former old.woken old.black new.black
  pub live : GoesOnFrom former old.woken old.live new.live
  pub woken : new.woken ≡ []

abbrev pub CatchUp : GraphState → Option Walks → Option Walks → Type 0
CatchUp former None new = new ≡ None
CatchUp former (Some w) new = (after : Walks) × (new ≡ Some after) × CatchesUp former w after
