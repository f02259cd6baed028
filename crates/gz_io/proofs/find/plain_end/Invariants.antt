use Rattle.std.proofs.Common.{length, ◌-◌, ◌≤◌, take}
use Rattle.gz_io.specs.Lines.{IsPlain}
use Rattle.gz_io.proofs.find.plain_end.Given as goal

abbrev pub invariant-loop-end : goal.invariant-loop-end
invariant-loop-end l = (l.end ≤ length l.bytes) × IsPlain (take l.end l.bytes)

abbrev pub decreases-loop-end : goal.decreases-loop-end
decreases-loop-end l = length l.bytes - l.end

abbrev pub invariant-loop-end-2 : goal.invariant-loop-end-2
invariant-loop-end-2 l = (l.end ≤ length l.bytes) × IsPlain (take l.end l.bytes)

abbrev pub decreases-loop-end-2 : goal.decreases-loop-end-2
decreases-loop-end-2 l = length l.bytes - l.end
