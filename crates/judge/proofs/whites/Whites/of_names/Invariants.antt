use Rattle.std.proofs.Common.{take}
use Rattle.judge.specs.Whites.{AreByArena}
use Rattle.judge.proofs.whites.Whites.of_names.Given as goal

abbrev pub invariant-loop-name : goal.invariant-loop-name
invariant-loop-name l = AreByArena l.places (take l.name-index l.names) l.whites
