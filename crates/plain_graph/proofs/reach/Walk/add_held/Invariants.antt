use Rattle.std.proofs.Common.{◌≡◌, Contains, Some, take}
use Rattle.plain_graph.specs.Reach.{Adds}
use Rattle.plain_graph.proofs.reach.Walk.add_held.Given as goal

abbrev pub invariant-loop-held : goal.invariant-loop-held
invariant-loop-held l = record {
  next : l.self.next ≡ l.fn.self.next;
  added : Adds l.fn.self.names l.self.names (λ x. Contains (take l.held-index l.fields) (Some x));
}
