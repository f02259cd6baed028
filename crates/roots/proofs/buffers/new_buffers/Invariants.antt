use Rattle.std.proofs.Common.{◌≡◌, [], replicate}
use Rattle.roots.specs.Buffers.{lists_of}
use Rattle.roots.proofs.buffers.new_buffers.Given as goal

abbrev pub invariant-loop-i : goal.invariant-loop-i
invariant-loop-i l = lists_of l.buffers.items ≡ replicate l._i []
