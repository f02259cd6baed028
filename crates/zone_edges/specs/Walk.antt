-- What holds between two steps of the search for components.
use Rattle.std.specs.Prelude.{◌≡◌, ℕ, ◌+◌, ◌-◌, ◌*◌, ◌<◌, ◌≤◌, ◌⊎◌, List, length}
use Rattle.gz_names.specs.Zones.{HasZone}
use Rattle.gz_names.specs.declared.zone_sets.ZoneSet.{ZoneSet}
use Rattle.zone_edges.specs.declared.search.Search.{Search}
use Rattle.zone_edges.specs.Sets.{IsAt, size}
use Rattle.zone_edges.specs.Groups.{Edge, Leads}

-- the groups found so far are components, in order, and no edge leads into them from elsewhere
pub record AreFound (sources : List ZoneSet) (zones done : ZoneSet) (groups : List ZoneSet) (count : ℕ) : Type 0 where
  pub edges : (a b : ℕ) → Edge sources a b → HasZone zones.bits a
  pub small : (z : ℕ) → HasZone zones.bits z → z < 64
  pub done_is : (z : ℕ) → HasZone done.bits z → (i : ℕ) × (i < count) × IsAt groups i z
  pub is_done : (i z : ℕ) → i < count → IsAt groups i z → HasZone done.bits z
  pub some : (i : ℕ) → i < count → (z : ℕ) × IsAt groups i z
  pub apart : (i j z : ℕ) → i < j → j < count → IsAt groups i z → IsAt groups j z → ⊥
  pub led : (i a b : ℕ) → i < count → IsAt groups i a → IsAt groups i b → Leads sources a b
  pub closed : (a b : ℕ) → HasZone done.bits b → Edge sources a b → HasZone done.bits a
  pub order : (i j a b : ℕ) → i < j → j < count → IsAt groups j a → IsAt groups i b → Edge sources a b → ⊥

-- the zones that are seen and not done stand on levels: each zone of a level is led to by each zone of that
-- level and of the levels above it
pub record IsSearch (s : Search) : Type 0 where
  pub found : AreFound s.sources s.zones s.done s.groups s.count
  pub sources_len : length s.sources ≡ 64
  pub levels_len : length s.levels ≡ 64
  pub entering_len : length s.entering ≡ 64
  pub groups_len : length s.groups ≡ 64
  pub most : s.depth + s.count ≤ 64
  pub room : s.depth + s.count ≤ size 64 s.seen.bits
  pub seen_is : (z : ℕ) → HasZone s.seen.bits z → HasZone s.done.bits z ⊎ ((i : ℕ) × (i < s.depth) × IsAt s.levels i z)
  pub done_seen : (z : ℕ) → HasZone s.done.bits z → HasZone s.seen.bits z
  pub level_seen : (i z : ℕ) → i < s.depth → IsAt s.levels i z → HasZone s.seen.bits z
  pub apart_done : (i z : ℕ) → i < s.depth → IsAt s.levels i z → HasZone s.done.bits z → ⊥
  pub apart : (i j z : ℕ) → i < j → j < s.depth → IsAt s.levels i z → IsAt s.levels j z → ⊥
  pub some : (i : ℕ) → i < s.depth → (z : ℕ) × IsAt s.levels i z
  pub down : (i j x y : ℕ) → i ≤ j → j < s.depth → IsAt s.levels i x → IsAt s.levels j y → Leads s.sources y x
  pub source_in : (i x y : ℕ) → i < s.depth → IsAt s.levels i x → Edge s.sources y x → IsAt s.entering i y
  pub source_of : (i y : ℕ) → i < s.depth → IsAt s.entering i y → (x : ℕ) × IsAt s.levels i x × Edge s.sources y x
  pub within : (z : ℕ) → HasZone s.seen.bits z → HasZone s.zones.bits z

-- a later state of the same search
pub record Follows (s t : Search) : Type 0 where
  pub sources : t.sources ≡ s.sources
  pub zones : t.zones ≡ s.zones
  pub seen : (z : ℕ) → HasZone s.seen.bits z → HasZone t.seen.bits z

-- how many steps may be left: two for each zone that was not seen, one for each level
abbrev pub left : Search → ℕ
left s = 2 * (64 - size 64 s.seen.bits) + s.depth
