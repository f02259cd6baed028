use Rattle.std.proofs.Common.{◌≡◌, length, sum_by, take}
use Rattle.roots.specs.Buffers.{lists_of}
use Rattle.roots.proofs.buffers.count_waiting.Given as goal

abbrev pub invariant-loop-buffer : goal.invariant-loop-buffer
invariant-loop-buffer l = l.count ≡ sum_by length (take l.buffer-index (lists_of l.buffers))
