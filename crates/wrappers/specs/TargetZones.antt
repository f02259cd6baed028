-- The zones that are noted for each zone.
use Rattle.std.specs.Prelude.{ℕ, List, Option, Some, None, slice_get}
use Rattle.gz_names.specs.Zones.{HasZone}
use Rattle.gz_names.specs.declared.zone_sets.ZoneSet.{ZoneSet}

-- a set that may be missing has a zone
abbrev pub IsIn : Option ZoneSet → ℕ → Type 0
IsIn None to = ⊥
IsIn (Some set) to = HasZone set.bits to

-- a zone is noted for another one
abbrev pub IsNoted : List ZoneSet → ℕ → ℕ → Type 0
IsNoted sets from to = IsIn (slice_get sets from) to
