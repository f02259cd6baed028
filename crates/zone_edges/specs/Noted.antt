-- What callers see of noted edges.
use Rattle.std.specs.Prelude.{◌≡◌, ℕ, List, length}
use Rattle.gz_names.specs.Zones.{HasZone}
use Rattle.gz_names.specs.declared.zone_sets.ZoneSet.{ZoneSet}
use Rattle.zone_edges.specs.declared.search.Search.{Search}
use Rattle.zone_edges.specs.Walk.{IsSearch}

-- the zones that are to be grouped, for each zone those from which an edge to it is noted, the zones that had
-- their step, and for each zone how many of its wrappers were looked at
pub record Noted : Type 0 where
  pub zones : ZoneSet
  pub sources : List ZoneSet
  pub stepped : ZoneSet
  pub cursors : List ℕ

-- what holds between two calls: the search stands at no level, each zone that had its step was seen, and none
-- was before the first step; there is a cursor for each zone
pub record IsBetween (s : Search) (stepped : ZoneSet) (cursors : List ℕ) : Type 0 where
  pub search : IsSearch s
  pub idle : s.depth ≡ 0
  pub stepped_seen : (z : ℕ) → HasZone stepped.bits z → HasZone s.seen.bits z
  pub fresh : stepped.bits ≡ 0 → (z : ℕ) → HasZone s.seen.bits z → ⊥
  pub sized : length cursors ≡ 64
