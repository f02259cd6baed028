-- How many wrappers stand on the lists of zones.
use Rattle.std.specs.Prelude.{◌+◌, ℕ, zero, suc, Bool, not, length, if◌then◌else◌}
use Rattle.gz_names.specs.declared.zone_sets.ZoneSet.{ZoneSet}
use Rattle.arena_table.specs.Indexed.{in_zones}
use Rattle.wrappers.specs.WrapperMaps.{list_of}
use Rattle.heap_core.specs.Shape.{Shape}

-- whether a zone is none of these
abbrev pub is_outside : ZoneSet → ℕ → Bool
is_outside zones z = not (in_zones zones.bits z)

-- how many wrappers stand on the lists of the zones below a number that pass a test
unfoldable pub listed_below : Shape → (ℕ → Bool) → ℕ → ℕ
listed_below s test zero = 0
listed_below s test (suc z) = listed_below s test z + (if test z then length (list_of s.wrappers z) else 0)
