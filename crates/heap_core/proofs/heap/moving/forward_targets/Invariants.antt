use Rattle.heap_core.specs.Moving.{Forwards}
use Rattle.heap_core.proofs.Forwarded.{LeadsFromBelow}
use Rattle.heap_core.proofs.heap.moving.forward_targets.Given as goal

abbrev pub invariant-loop-index : goal.invariant-loop-index
invariant-loop-index l = record {
  forwards : Forwards (LeadsFromBelow l.wrappers l.noted l.zone l.index) l.moves l.fn.arenas l.arenas;
}
