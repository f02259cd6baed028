use Rattle.std.proofs.Common.{drop}
use Rattle.roots.proofs.Buffering.{IsPutting}
use Rattle.roots.proofs.buffers.put_items.Given as goal

abbrev pub invariant-loop-zone : goal.invariant-loop-zone
invariant-loop-zone l =
    IsPutting l.initial.buffers l.items l.buffers l.noted.bits (drop l.zone-index l.items) l.zone-index
