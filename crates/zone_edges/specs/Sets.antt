-- Lists of sets of zones, and how many zones a set has.
use Rattle.std.specs.Prelude.{ℕ, zero, suc, ◌+◌, List, slice_index_or}
use Rattle.std.specs.Int.{bit_at}
use Rattle.gz_names.specs.Zones.{HasZone}
use Rattle.gz_names.specs.declared.zone_sets.ZoneSet.{ZoneSet}

-- the set without zones
abbrev pub no_zones : ZoneSet
no_zones = record { bits = 0 }

-- a zone is in the i-th set of a list; past the list's end there is none
abbrev pub IsAt : List ZoneSet → ℕ → ℕ → Type 0
IsAt sets i z = HasZone (slice_index_or sets i no_zones).bits z

-- how many of the zones below n are in a word
unfoldable pub size : ℕ → ℕ → ℕ
size zero word = 0
size (suc n) word = size n word + bit_at word n
