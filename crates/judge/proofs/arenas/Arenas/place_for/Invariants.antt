use Rattle.std.proofs.Common.{◌≡◌, ℕ, ◌<◌}
use Rattle.judge.specs.Arenas.{AreSameSlots, flags_in, owners_in}
use Rattle.judge.specs.Slots.{IsFull}
use Rattle.judge.proofs.arenas.Arenas.place_for.Given as goal

abbrev pub invariant-loop-arena : goal.invariant-loop-arena
invariant-loop-arena l = record {
  same : AreSameSlots l.fn.self l.self;
  lowest : l.self.lowest ≡ l.fn.self.lowest;
  full : (n : ℕ) → n < l.arena → IsFull (owners_in l.fn.self) (flags_in l.fn.self) l.fn.self.lying l.zone n;
}
