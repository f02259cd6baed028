use Rattle.std.proofs.Common.{◌≤◌, length}
use Rattle.heap_core.proofs.Dropping.{Visited}
use Rattle.heap_core.proofs.heap.drop_entries.Given as goal

abbrev pub invariant-loop-index : goal.invariant-loop-index
invariant-loop-index l = record {
  visited : Visited l.jobs l.index l.initial.weak l.weak;
  within : l.index ≤ length l.jobs;
}
