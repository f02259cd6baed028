use Rattle.std.proofs.Common.{◌++◌}
use Rattle.std.proofs.lemmas.Result.{on_ok_weaker}
use Rattle.judge.proofs.collection.follow_all.Goals as goal

pub returns : goal.returns
returns c =
    on_ok_weaker c.finish.result
    (λ done starts f. done (starts ++ c.args.names.now) (c.in_ok-add_all.ensures c.args.graph.now starts f))
    c.finish.ensures
