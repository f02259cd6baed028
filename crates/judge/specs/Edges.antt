-- The edges between the zones of a collection, and the order of groups that they allow.
use Rattle.std.specs.Prelude.{◌≡◌, ◌≢◌, ◌⊎◌, ◌↔◌, ℕ, List, Some, Contains, AllPairs, slice_index_or}
use Rattle.gz_names.specs.Zones.{HasZone, zones_in}
use Rattle.gz_names.specs.declared.zone_sets.ZoneSet.{ZoneSet}
use Rattle.gz_names.specs.declared.names.Name.{Name}
use Rattle.gz_names.specs.declared.names.Name.TheVariants.{Cell, Wrap}
use Rattle.gz_names.specs.declared.numbers.CompNo.{CompNo}
use Rattle.colour_defs.specs.Graph.{GraphState, value_of, zone_of}
use Rattle.colour_defs.specs.Groups.{LeadsWithin}
use Rattle.judge.specs.Cells.{Cells, HasCell}
use Rattle.judge.specs.declared.collection.Collection.{Collection}
use Rattle.judge.specs.declared.edges.ZoneEdges.{ZoneEdges}

abbrev pub no_zones : ZoneSet
no_zones = record { bits = 0 }

-- an edge is noted from a to b
abbrev pub IsNoted : ZoneEdges → ℕ → ℕ → Type 0
IsNoted edges a b = HasZone (slice_index_or edges.to a no_zones).bits b

-- what edges come from: the graph, the one whose entries count, the present cells, the zones of the collection, and
-- the names that were found black
pub record Sources : Type 0 where
  pub graph : GraphState
  pub entries : GraphState
  pub cells : Cells
  pub zones : ZoneSet
  pub black : List Name

abbrev pub sources_of : GraphState → GraphState → Cells → Collection → Sources
sources_of graph entries cells k = record {
  graph = graph;
  entries = entries;
  cells = cells;
  zones = k.zones;
  black = k.black.names;
}

-- a name is a wrapper that leads from one of the zones to a cell of another one that is not black
pub record Leads (s : Sources) (x : Name) (a b : ℕ) : Type 0 where
  pub comp : CompNo
  pub target : ℕ
  pub wrapper : x ≡ Wrap comp target
  pub of : zone_of s.graph x ≡ Some a
  pub into : zone_of s.graph (Cell target) ≡ Some b
  pub apart : a ≢ b
  pub from_these : HasZone s.zones.bits a
  pub to_these : HasZone s.zones.bits b
  pub outside : Contains s.black (Cell target) → ⊥

-- a map and a key have an entry, the map is present, and the key is this one
pub record IsEntryOf (g : GraphState) (cells : Cells) (pair : Name × Name) (key : Name) : Type 0 where
  pub key_is : pair.1 ≡ key
  pub value : Name
  pub found : value_of g pair.0 pair.1 ≡ Some value
  pub present : HasCell cells pair.0

-- a name is the key of an entry whose map is present
abbrev pub IsKeyOf : GraphState → Cells → Name → Type 0
IsKeyOf g cells x = (m : Name) × (v : Name) × (value_of g m x ≡ Some v) × HasCell cells m

-- a name makes an edge: it leads along it; or it leads back, and is a key
abbrev pub Makes : Sources → Name → ℕ → ℕ → Type 0
Makes s x a b = Leads s x a b ⊎ (IsKeyOf s.entries s.cells x × Leads s x b a)

-- the edges that a name makes are noted
abbrev pub Notes : Sources → Name → ZoneEdges → ZoneEdges → Type 0
Notes s x old new = (a b : ℕ) → IsNoted new a b ↔ (IsNoted old a b ⊎ Makes s x a b)

-- some present name makes an edge
abbrev pub IsEdge : Sources → ℕ → ℕ → Type 0
IsEdge s a b = (x : Name) × HasCell s.cells x × Makes s x a b

-- these are the edges
abbrev pub AreEdges : Sources → ZoneEdges → Type 0
AreEdges s edges = (a b : ℕ) → IsNoted edges a b ↔ IsEdge s a b

-- within a group edges lead from each zone to each other
abbrev pub IsStrong : (ℕ → ℕ → Type 0) → ZoneSet → Type 0
IsStrong E group =
    (a b : ℕ) → HasZone group.bits a → HasZone group.bits b → LeadsWithin E (zones_in group) a b

abbrev pub AreStrong : (ℕ → ℕ → Type 0) → List ZoneSet → Type 0
AreStrong E groups = (group : ZoneSet) → Contains groups group → IsStrong E group

-- no edge leads from a later group to an earlier one
abbrev pub NoneLeads : (ℕ → ℕ → Type 0) → ZoneSet → ZoneSet → Type 0
NoneLeads E earlier later = (a b : ℕ) → HasZone later.bits a → HasZone earlier.bits b → E a b → ⊥

abbrev pub AreForward : (ℕ → ℕ → Type 0) → List ZoneSet → Type 0
AreForward E groups = AllPairs (NoneLeads E) groups

-- the groups are in an order that the edges allow: in each, edges lead from each zone to each other, by what was found
-- black at first; none leads from a later group to an earlier one, by what is black in the end
pub record AreInOrder (graph former : GraphState) (cells : Cells) (old new : Collection) (groups : List ZoneSet)
    : Type 0 where
  pub strong : AreStrong (IsEdge (sources_of graph former cells old)) groups
  pub forward : AreForward (IsEdge (sources_of graph graph cells new)) groups
