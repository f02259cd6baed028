use Rattle.std.proofs.Common.{take}
use Rattle.judge.specs.Lines.{Lacks}
use Rattle.judge.proofs.lines.place_of.Given as goal

abbrev pub invariant-loop-i : goal.invariant-loop-i
invariant-loop-i l = Lacks l.wanted (take l.i l.bytes)
