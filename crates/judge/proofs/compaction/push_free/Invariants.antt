use Rattle.std.proofs.Common.{◌≡◌, ◌++◌, ◌-◌}
use Rattle.judge.specs.Compaction.{free_slots}
use Rattle.judge.proofs.compaction.push_free.Given as goal

abbrev pub invariant-loop-slot : goal.invariant-loop-slot
invariant-loop-slot l =
    l.free.items ++ free_slots l.taken l.arena l.slot (64 - l.slot) ≡ l.fn.free.items ++ free_slots l.taken l.arena 0 64
