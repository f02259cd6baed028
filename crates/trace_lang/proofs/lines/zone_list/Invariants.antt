use Rattle.std.proofs.Common.{◌≤◌, length}
use Rattle.gz_names.specs.declared.zone_sets.ZoneSet.{ZoneSet}
use Rattle.trace_lang.specs.Grammar.{SpellsZones}
use Rattle.trace_lang.proofs.ZoneLists.{Listed, Follows}
use Rattle.trace_lang.proofs.lines.zone_list.Given as goal

abbrev pub invariant-loop-rest : goal.invariant-loop-rest
invariant-loop-rest l =
    (l.lowest ≤ 64) × Listed l.text l.bits l.lowest l.rest
    × ((other : ZoneSet) → SpellsZones other l.text → Follows l.bits other.bits l.lowest l.rest)

abbrev pub decreases-loop-rest : goal.decreases-loop-rest
decreases-loop-rest l = length l.rest
