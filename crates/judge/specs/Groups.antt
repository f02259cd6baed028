-- Which groups a collection may form, by the definitions.
use Rattle.std.specs.Prelude.{◌≡◌, ◌↔◌, List, Contains, map}
use Rattle.gz_names.specs.Zones.{zones_in}
use Rattle.gz_names.specs.declared.zone_sets.ZoneSet.{ZoneSet}
use Rattle.gz_names.specs.declared.names.Name.{Name}
use Rattle.colour_defs.specs.Graph.{GraphState}
use Rattle.colour_defs.specs.Closure.{Closure}
use Rattle.colour_defs.specs.World.{BlackClosure, Collection, Has, IsPresent, World}
use Rattle.colour_defs.specs.Groups.{AreLawfulGroups}
use Rattle.judge.specs.Cells.{Cells, HasCell}
use Rattle.judge.specs.Walks.{IsFoundBlack, Walks}

-- what groups are formed by: the graph, the present cells, the zones of the collection, the graph as it stood when
-- marking began, and what was found since
pub record Forming : Type 0 where
  pub graph : GraphState
  pub cells : Cells
  pub zones : ZoneSet
  pub former : GraphState
  pub walks : Walks

-- a world of the definitions and its collection, for which the judge's stand as groups are formed: the same graph,
-- cells, zones and former graph, and the same names black, as marking began and as they are
pub record Stands (f : Forming) (w : World) (k : Collection) : Type 0 where
  pub graph_is : w.graph ≡ f.graph
  pub present : (x : Name) → IsPresent w x ↔ HasCell f.cells x
  pub zones_are : k.zones ≡ zones_in f.zones
  pub former_is : k.snapshot ≡ f.former
  pub first_black : (x : Name) → Closure k.snapshot (Has k.black_starts) x ↔ Contains f.walks.black.names x
  pub black : (x : Name) → BlackClosure k x ↔ IsFoundBlack f.former f.walks x

-- these groups are lawful
abbrev pub AreAllowed : Forming → List ZoneSet → Type 0
AreAllowed f groups =
    (w : World) (k : Collection) → Stands f w k → AreLawfulGroups w k (map zones_in groups)

-- they are not
abbrev pub AreRefused : Forming → List ZoneSet → Type 0
AreRefused f groups =
    (w : World) (k : Collection) → Stands f w k → AreLawfulGroups w k (map zones_in groups) → ⊥
