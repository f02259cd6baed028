use Rattle.std.proofs.Common.{Contains, take, arith}
use Rattle.colour_defs.proofs.Lists.{nothing_in_none}
use Rattle.judge.proofs.LeftOut.{kept_all, kept_more, kept_none}
use Rattle.judge.proofs.preparation.Preparation.add_all_kept.Goals as goal

pub loop-pair-init : goal.loop-pair-init
loop-pair-init c =
    kept_none c.args.graph.now c.args.self.now (λ m k. Contains (take 0 c.args.pairs.now) (m, k))
    (λ m k h. nothing_in_none (m, k) h)

pub loop-pair-preserved : goal.loop-pair-preserved
loop-pair-preserved c =
    kept_more c.args.graph.now c.args.self.now c.loop-pair.self c.add_kept.new.self c.args.pairs.now
    c.loop-pair.pair-index _ c.loop-pair-test.true c.loop-pair.invariant c.in_ok-add_kept.ensures

pub returns : goal.returns
returns c =
    kept_all c.args.graph.now c.args.self.now c.loop-pair.self c.args.pairs.now c.loop-pair.pair-index (omega arith)
    c.loop-pair.invariant
