use Rattle.std.proofs.Common.{◌≡◌, Contains, take}
use Rattle.plain_graph.specs.Reach.{Keeps}
use Rattle.plain_graph.proofs.reach.Walk.add_all_kept.Given as goal

abbrev pub invariant-loop-pair : goal.invariant-loop-pair
invariant-loop-pair l = record {
  next : l.self.next ≡ l.fn.self.next;
  kept : Keeps l.graph (λ m k. Contains (take l.pair-index l.pairs) (m, k)) l.fn.self.names l.self.names;
}
