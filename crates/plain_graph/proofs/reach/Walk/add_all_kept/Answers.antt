use Rattle.std.proofs.Common.{◌∙◌, Contains, take, arith}
use Rattle.plain_graph.proofs.Walks.{keeps_less, pairs_more, take_all_of}
use Rattle.plain_graph.proofs.reach.Walk.add_all_kept.Goals as goal

pub loop-pair-preserved : goal.loop-pair-preserved
loop-pair-preserved c = record {
  next = c.in_ok-add_kept.ensures.next ∙ c.loop-pair.invariant.next;
  kept = pairs_more c.args.graph.now c.args.pairs.now c.loop-pair.pair-index _ c.args.self.now.names
      c.loop-pair.self.names c.add_kept.new.self.names c.loop-pair-test.true c.loop-pair.invariant.kept
      c.in_ok-add_kept.ensures.kept;
}

pub returns-clause-kept : goal.returns-clause-kept
returns-clause-kept c =
    let pairs = c.args.pairs.now in
    let i = c.loop-pair.pair-index in
    keeps_less c.args.graph.now (λ m k. Contains (take i pairs) (m, k)) (λ m k. Contains pairs (m, k))
    c.args.self.now.names c.loop-pair.self.names c.loop-pair.invariant.kept
    (λ m k v h at. take_all_of pairs i (m, k) (omega arith) h)
