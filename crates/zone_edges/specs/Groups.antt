-- What noted edges say of zones, and which groups are their components.
use Rattle.std.specs.Prelude.{ℕ, ◌<◌, List, length, slice_index_or}
use Rattle.gz_names.specs.Zones.{HasZone}
use Rattle.gz_names.specs.declared.zone_sets.ZoneSet.{ZoneSet}
use Rattle.zone_edges.specs.Sets.{IsAt, no_zones}

-- the edge from a to b is noted: a must not finish after b. A list has for each zone those from which an edge
-- leads to it
abbrev pub Edge : List ZoneSet → ℕ → ℕ → Type 0
Edge sources a b = IsAt sources b a

-- noted edges lead from a to b
pub data Leads (sources : List ZoneSet) : ℕ → ℕ → Type 0 where
  stay : {a : ℕ} → Leads sources a a
  along : {a b c : ℕ} → Leads sources a b → Edge sources b c → Leads sources a c

-- noted edges lead from a to b over zones of a group alone
pub data LeadsWithin (sources : List ZoneSet) (group : ZoneSet) : ℕ → ℕ → Type 0 where
  rest : {a : ℕ} → HasZone group.bits a → LeadsWithin sources group a a
  pass : {a b c : ℕ} → LeadsWithin sources group a b → Edge sources b c → HasZone group.bits c
      → LeadsWithin sources group a c

-- some group has both zones
abbrev pub AreTogether : List ZoneSet → ℕ → ℕ → Type 0
AreTogether groups a b = (i : ℕ) × (i < length groups) × IsAt groups i a × IsAt groups i b

-- the groups are the strongly connected components of the zones, each once, in an order in which no noted edge
-- leads from a later group to an earlier one
pub record AreComponents (sources : List ZoneSet) (zones : ZoneSet) (groups : List ZoneSet) : Type 0 where
  -- each zone is in a group, and a group has none but these zones
  pub covered : (z : ℕ) → HasZone zones.bits z → (i : ℕ) × (i < length groups) × IsAt groups i z
  pub inside : (i z : ℕ) → i < length groups → IsAt groups i z → HasZone zones.bits z
  -- no group is empty, and no zone is in two
  pub some : (i : ℕ) → i < length groups → (z : ℕ) × IsAt groups i z
  pub apart : (i j z : ℕ) → i < j → j < length groups → IsAt groups i z → IsAt groups j z → ⊥
  -- in a group each zone leads to each, and two zones that lead to each other are in one group
  pub strong : (i a b : ℕ) → i < length groups → IsAt groups i a → IsAt groups i b
      → LeadsWithin sources (slice_index_or groups i no_zones) a b
  pub whole : (a b : ℕ) → HasZone zones.bits a → HasZone zones.bits b → Leads sources a b → Leads sources b a
      → AreTogether groups a b
  pub order : (i j a b : ℕ) → i < j → j < length groups → IsAt groups j a → IsAt groups i b → Edge sources a b → ⊥
