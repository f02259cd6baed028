use Rattle.std.proofs.lemmas.Result.{on_ok_weaker}
use Rattle.judge.specs.Stages.{stage_of}
use Rattle.judge.specs.Walks.{left_out_of}
use Rattle.judge.proofs.LeftStages.{left_absent, left_some}
use Rattle.judge.proofs.world.World.wake_any.Goals as goal

pub returns-in-None-clause-left_out : goal.returns-in-None-clause-left_out
returns-in-None-clause-left_out c =
    left_absent c.args.graph.now (stage_of c.args.self.now.phase) c.args.name (left_out_of c.args.self.now.phase)
    c.in-None.is

pub returns-in-Some-clause-left_out : goal.returns-in-Some-clause-left_out
returns-in-Some-clause-left_out c =
    on_ok_weaker c.wake.result (λ l. left_some c.args.graph.now (stage_of c.args.self.now.phase) c.in-Some.name
    c.args.name (left_out_of c.args.self.now.phase) (left_out_of c.wake.new.self.phase)
    c.in-Some.is l) c.wake.ensures.left_out
