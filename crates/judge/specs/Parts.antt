-- Groups that part the zones of a collection.
use Rattle.std.specs.Prelude.{◌↔◌, ℕ, ◌<◌, ◌≤◌, ◌^◌, List, Contains, AllPairs, length}
use Rattle.gz_names.specs.Zones.{HasZone}
use Rattle.gz_names.specs.declared.zone_sets.ZoneSet.{ZoneSet}

abbrev pub AreApart : ZoneSet → ZoneSet → Type 0
AreApart g h = (z : ℕ) → HasZone g.bits z → HasZone h.bits z → ⊥

-- each zone is in one group, no other zone is, and no group is empty
pub record AreParts (zones : ZoneSet) (groups : List ZoneSet) : Type 0 where
  pub all : (z : ℕ) → HasZone zones.bits z → (g : ZoneSet) × Contains groups g × HasZone g.bits z
  pub only : (g : ZoneSet) (z : ℕ) → Contains groups g → HasZone g.bits z → HasZone zones.bits z
  pub full : (g : ZoneSet) → Contains groups g → (z : ℕ) × HasZone g.bits z
  pub apart : AllPairs AreApart groups

-- groups that a line can list: at most 64, each with zones, in 64 bits
pub record AreListed (groups : List ZoneSet) : Type 0 where
  pub few : length groups ≤ 64
  pub some : (g : ZoneSet) → Contains groups g → 0 < g.bits
  pub small : (g : ZoneSet) → Contains groups g → g.bits < 2 ^ 64

-- a group has zones, all of them among these, and none that was seen before
pub record Fits (zones seen group : ZoneSet) : Type 0 where
  pub some : (z : ℕ) × HasZone group.bits z
  pub fresh : AreApart group seen
  pub within : (z : ℕ) → HasZone group.bits z → HasZone zones.bits z

-- the groups so far, and the zones that were seen in them
pub record ArePartsSoFar (zones seen : ZoneSet) (groups : List ZoneSet) : Type 0 where
  pub seen_are : (z : ℕ) → HasZone seen.bits z ↔ ((g : ZoneSet) × Contains groups g × HasZone g.bits z)
  pub only : (g : ZoneSet) (z : ℕ) → Contains groups g → HasZone g.bits z → HasZone zones.bits z
  pub full : (g : ZoneSet) → Contains groups g → (z : ℕ) × HasZone g.bits z
  pub apart : AllPairs AreApart groups
