use Rattle.std.proofs.Common.{◌≡◌, [], Contains, take}
use Rattle.plain_graph.specs.Reach.{Adds}
use Rattle.plain_graph.proofs.reach.closure.Given as goal

abbrev pub invariant-loop-start : goal.invariant-loop-start
invariant-loop-start l = record {
  next : l.walk.next ≡ 0;
  added : Adds [] l.walk.names (λ x. Contains (take l.start-index l.starts) x);
}
