use Rattle.std.proofs.Common.{[], subst, sym}
use Rattle.plain_graph.specs.Reach.{Follows, WalkState}
use Rattle.judge.proofs.Follows.{follows_none}
use Rattle.judge.proofs.collection.walk_from.Goals as goal

pub returns : goal.returns
returns c =
    c.in_ok-follow_all.ensures [] (subst (λ (w : WalkState). Follows c.args.graph.now [] w) (sym c.new-walk.ensures)
    (follows_none c.args.graph.now))
