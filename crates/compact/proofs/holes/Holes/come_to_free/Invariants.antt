use Rattle.std.proofs.Common.{◌-◌, ◌^◌}
use Rattle.compact.specs.Holes.{ComesOn}
use Rattle.compact.proofs.holes.Holes.come_to_free.Given as goal

abbrev pub invariant-loop-self : goal.invariant-loop-self
invariant-loop-self l = record { on : ComesOn l.heap.shape l.initial.self l.self }

abbrev pub decreases-loop-self : goal.decreases-loop-self
decreases-loop-self l = 2 ^ 32 - l.self.from
