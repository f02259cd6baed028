-- What ties the components of noted edges to the groups that are lawful in a world.
use Rattle.std.specs.Prelude.{◌≡◌, ◌↔◌, ℕ, List, map, Some, Contains}
use Rattle.gz_names.specs.Zones.{zones_in}
use Rattle.gz_names.specs.declared.zone_sets.ZoneSet.{ZoneSet}
use Rattle.gz_names.specs.declared.names.Name.{Name}
use Rattle.colour_defs.specs.World.{Has, World, Collection}
use Rattle.colour_defs.specs.Groups.{IsFirstEdge, IsLastEdge, LeadsWithin, AreLawfulGroups}
use Rattle.colour_defs.specs.Laws.{IsMarking, IsValid}
use Rattle.zone_edges.specs.Groups.{Edge, AreComponents}

-- components are lawful groups, where what was noted lies between the last edges and the first ones
abbrev pub ComponentsAreLawful : Type 0
ComponentsAreLawful = (w : World) (k : Collection) (sources : List ZoneSet) (zones : ZoneSet) (groups : List ZoneSet)
    → k.zones ≡ zones_in zones
    → AreComponents sources zones groups
    → ((a b : ℕ) → Edge sources a b → IsFirstEdge w k a b)
    → ((a b : ℕ) → IsLastEdge w k a b → Edge sources a b)
    → AreLawfulGroups w k (map zones_in groups)

-- where nothing was woken, two zones of the collection are in one group exactly if first edges lead from each
-- to the other: lawful groups are then the strongly connected components
abbrev pub GroupsAreComponents : Type 0
GroupsAreComponents = (w : World) (k : Collection) (groups : List (List ℕ))
    → IsValid w
    → w.collection ≡ Some k
    → IsMarking k
    → AreLawfulGroups w k groups
    → ((x : Name) → Has k.woken x → ⊥)
    → (a b : ℕ) → Contains k.zones a → Contains k.zones b
    → ((g : List ℕ) × Contains groups g × Contains g a × Contains g b)
    ↔ (LeadsWithin (IsFirstEdge w k) k.zones a b × LeadsWithin (IsFirstEdge w k) k.zones b a)
