use Rattle.std.proofs.Common.{◌≡◌, [], replicate}
use Rattle.arena_table.proofs.index.new_sets.Given as goal

abbrev pub invariant-loop-i : goal.invariant-loop-i
invariant-loop-i l = l.sets.items ≡ replicate l._i []
