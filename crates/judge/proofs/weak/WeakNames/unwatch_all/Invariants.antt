use Rattle.std.proofs.Common.{◌≡◌, take}
use Rattle.judge.specs.Weak.{AreUnwatched}
use Rattle.judge.proofs.weak.WeakNames.unwatch_all.Given as goal

abbrev pub invariant-loop-name : goal.invariant-loop-name
invariant-loop-name l = record {
  slots : l.self.slots ≡ l.fn.self.slots;
  watched : AreUnwatched l.fn.self (take l.name-index l.names) l.self;
}
