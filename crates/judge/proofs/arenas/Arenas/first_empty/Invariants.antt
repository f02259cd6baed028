use Rattle.std.proofs.Common.{ℕ, ◌<◌, ◌≤◌}
use Rattle.judge.specs.Places.{IsEmpty}
use Rattle.judge.proofs.arenas.Arenas.first_empty.Given as goal

abbrev pub invariant-loop-slot : goal.invariant-loop-slot
invariant-loop-slot l = (s : ℕ) → l.from ≤ s → s < l.slot → IsEmpty l.self.lying (l.arena, s) → ⊥
