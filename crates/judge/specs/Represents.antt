-- A world of the definitions for which what the judge shows stands, at each moment of a transcript: between two
-- answers, and behind each line of one. `Represents` says that they have the same graph, the same cells in the same
-- places, the same arenas, and the same white cells that wait there, weak names and watched cells; and of a collection
-- the same by its stage. The records of one clause alone follow from it: `Stands` (Groups), `StandsPrepared` (Bounds),
-- `Rests` (Dumps) and `Lies` (Compaction).
use Rattle.std.specs.Prelude.{◌≡◌, ◌↔◌, ◌≤◌, ◌<◌, ◌^◌, ℕ, List, [], map, length, Option, Some, None, Contains}
use Rattle.std.specs.BTreeMap as tree
use Rattle.std.specs.FinMap as finite
use Rattle.gz_names.specs.Zones.{zones_in}
use Rattle.gz_names.specs.declared.zone_sets.ZoneSet.{ZoneSet}
use Rattle.gz_names.specs.declared.names.Name.{Name}
use Rattle.gz_names.specs.declared.numbers.Place.{Place}
use Rattle.colour_defs.specs.Graph.{GraphState, zone_of}
use Rattle.colour_defs.specs.Closure.{Closure}
use Rattle.colour_defs.specs.World.{BlackClosure, Collection, Has, IsIdle, IsPlaceFor, LiveClosure, Preparation, World}
use Rattle.colour_defs.specs.Ends.{Lists}
use Rattle.plain_graph.specs.Indexed.{order_of}
use Rattle.plain_graph.specs.Reach.{WalkState}
use Rattle.judge.specs.Cells.{HasCell}
use Rattle.judge.specs.Stages.{HasGroups, IsSettled, Shown, Stage, collecting, idle, preparing}
use Rattle.judge.specs.Walks.{IsFoundBlack, IsFoundLive, IsLeftBlack, Walks}
use Rattle.judge.specs.Weak.{IsWatched}
use Rattle.judge.specs.Whites.{whites_in}

-- the black names, where nothing is marked or prepared; the walk that found them has visited no more than there are
pub record IsBlackIn (black : WalkState) (w : World) : Type 0 where
  pub within : black.next ≤ length black.names
  pub names_are : (x : Name) → Has w.black x ↔ Contains black.names x

-- these zones are being prepared: what counts then, and what is black, which is of the zones that are left out
pub record IsPrepared (s : Shown) (zones : ZoneSet) (w : World) : Type 0 where
  pub preparation : Preparation
  pub preparing_is : w.preparing ≡ Some preparation
  pub alone : w.collection ≡ None
  pub small : zones.bits < 2 ^ 64
  pub zones_are : preparation.zones ≡ zones_in zones
  pub arenas_are : preparation.arenas ≡ s.tally.arenas
  pub spent_is : preparation.spent ≡ s.tally.spent
  pub none_out : s.out ≡ []
  pub black_are : (x : Name) → Has w.black x ↔ IsLeftBlack s.left_out x

-- what a collection has found so far, in the graph as it was at `started`
pub record HasFound (s : Shown) (k : Collection) (walks : Walks) : Type 0 where
  pub walks_are : s.walks ≡ Some walks
  pub former_is : k.snapshot ≡ s.former.graph
  pub black_are : (x : Name) → BlackClosure k x ↔ IsFoundBlack s.former.graph walks x
  pub live_are : (x : Name) → LiveClosure k x ↔ IsFoundLive s.former.graph walks x

-- what was black as marking began, which the first edges between zones go by
abbrev pub HasFirstBlack : Collection → Walks → Type 0
HasFirstBlack k walks = (x : Name) → Closure k.snapshot (Has k.black_starts) x ↔ Contains walks.black.names x

-- the groups that have not ended, once they are formed
abbrev pub zones_of_groups : Option (List ZoneSet) → Option (List (List ℕ))
zones_of_groups None = None
zones_of_groups (Some groups) = Some (map zones_in groups)

-- a collection of these zones marks and sweeps: it counts the same, and has found the same as long as groups are left
pub record IsCollected (s : Shown) (zones marking : ZoneSet) (groups : Option (List ZoneSet)) (w : World) : Type 0 where
  pub collection : Collection
  pub collection_is : w.collection ≡ Some collection
  pub alone : w.preparing ≡ None
  pub small : marking.bits < 2 ^ 64
  pub zones_are : collection.zones ≡ zones_in zones
  pub marking_are : collection.marking ≡ zones_in marking
  pub groups_are : collection.groups ≡ zones_of_groups groups
  pub tally_is : collection.tally ≡ s.tally
  pub none_out : groups ≡ None → s.out ≡ []
  pub found : HasGroups s.stage → (walks : Walks) × HasFound s collection walks
  pub first : groups ≡ None → (walks : Walks) → s.walks ≡ Some walks → HasFirstBlack collection walks

-- no collection runs, and no arena is out
pub record IsAtRest (s : Shown) (w : World) : Type 0 where
  pub idle : IsIdle w
  pub none_out : s.out ≡ []

-- what stands for a collection is that of the world, by how far it is
abbrev pub IsAtStage : Stage → Shown → World → Type 0
IsAtStage idle s w = IsAtRest s w
IsAtStage (preparing zones) s w = IsPrepared s zones w
IsAtStage (collecting zones marking groups) s w = IsCollected s zones marking groups w

-- the white cells of an arena that is out
abbrev pub AreWaiting : Shown → World → ℕ → Type 0
AreWaiting s w arena = Lists (λ x. (slot : ℕ) × Contains w.white (x, (arena, slot))) (whites_in s.whites arena)

-- what the judge shows, and the graph, stand for this world
pub record Represents (g : GraphState) (s : Shown) (w : World) : Type 0 where
  pub graph_is : w.graph ≡ g
  pub places_are : (x : Name) → finite.get w.places x ≡ tree.get order_of s.cells x
  pub owners_are : w.owner ≡ s.owners
  pub out_are : w.out ≡ s.out
  pub white_are : (arena : ℕ) → Contains s.out arena → AreWaiting s w arena
  pub slots_are : w.weak.slots ≡ s.weak.slots
  pub watched_are : (x : Name) → Has w.weak.watched x ↔ IsWatched s.weak x
  pub black_are : IsSettled s.stage → IsBlackIn s.black w
  pub stage_is : IsAtStage s.stage s w

-- a new cell of a zone takes this place, and these are the arenas then: in each world that has the arenas and the cells
-- of this one, it is the place for it by the definitions
abbrev pub IsPlaceIn : Shown → ℕ → Place → List (Option ℕ) → Type 0
IsPlaceIn s z p owners =
    (w : World) → w.owner ≡ s.owners → w.out ≡ s.out
    → ((x : Name) → finite.get w.places x ≡ tree.get order_of s.cells x) → IsPlaceFor w z p owners

-- where a name that a change wakes lies: where it did; or, if it is new, in its place
pub record IsInPlace (h : GraphState) (x : Name) (old new : Shown) : Type 0 where
  pub found : HasCell old.cells x → new.owners ≡ old.owners
  pub made : (HasCell old.cells x → ⊥) → (z : ℕ) → zone_of h x ≡ Some z
      → (p : Place) × IsPlaceIn old z p new.owners × (tree.get order_of new.cells x ≡ Some p)

abbrev pub LiesInPlace : GraphState → Option Name → Shown → Shown → Type 0
LiesInPlace h None old new = new.owners ≡ old.owners
LiesInPlace h (Some x) old new = IsInPlace h x old new
