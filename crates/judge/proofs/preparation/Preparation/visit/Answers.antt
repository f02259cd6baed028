use Rattle.judge.proofs.LeftOut.{visits_of}
use Rattle.std.proofs.lemmas.Result.{on_ok_weaker}
use Rattle.judge.proofs.preparation.Preparation.visit.Goals as goal

pub returns : goal.returns
returns c =
    on_ok_weaker c.add_all_kept.result (λ k. visits_of c.args.graph.now c.args.name c.args.self.now c.add_ends.new.self
    c.add_all_kept.new.self c.waiting_for.result.now c.requires c.in_ok-add_ends.ensures k c.waiting_for.ensures)
    c.add_all_kept.ensures
