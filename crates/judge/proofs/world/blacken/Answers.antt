use Rattle.std.proofs.lemmas.Result.{on_ok_weaker}
use Rattle.judge.proofs.Follows.{follows_one}
use Rattle.judge.proofs.world.blacken.Goals as goal

pub returns : goal.returns
returns c =
    on_ok_weaker c.finish.result
    (λ done starts f. done _ (follows_one c.args.graph.now starts c.args.name c.args.black.now c.add.new.self f
    (record { next = c.in_ok-add.ensures.next; added = c.in_ok-add.ensures.added }))) c.finish.ensures
