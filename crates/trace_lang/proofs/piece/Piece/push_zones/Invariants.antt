use Rattle.std.proofs.Common.{◌≡◌, ◌≤◌, ◌+◌, ◌-◌, ◌*◌, ◌++◌, length}
use Rattle.gz_names.specs.Zones.{zones_from}
use Rattle.trace_lang.specs.Words.{number_words}
use Rattle.trace_lang.proofs.piece.Piece.push_zones.Given as goal

abbrev pub invariant-loop-zone : goal.invariant-loop-zone
invariant-loop-zone l =
    (l.self ≡ l.fn.self ++ number_words (zones_from l.zones.bits 0 l.from))
    × (length l.self ≤ length l.fn.self + 3 * l.from) × (l.from ≤ 64)

abbrev pub decreases-loop-zone : goal.decreases-loop-zone
decreases-loop-zone l = 64 - l.from
