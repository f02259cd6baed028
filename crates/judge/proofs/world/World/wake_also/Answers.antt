use Rattle.std.proofs.Common.{◌≡◌}
use Rattle.std.proofs.lemmas.Result.{on_ok_weaker}
use Rattle.judge.specs.Stages.{stage_of}
use Rattle.judge.specs.Walks.{left_out_of}
use Rattle.judge.proofs.LeftStages.{left_absent, left_prepared, left_some}
use Rattle.judge.proofs.world.World.wake_also.Goals as goal

pub returns-in_default-clause-left_out : goal.returns-in_default-clause-left_out
returns-in_default-clause-left_out c =
    left_absent c.args.graph.now (stage_of c.args.self.now.phase) c.args.name (left_out_of c.args.self.now.phase)
    c.in_default.is

pub returns-clause-left_out : goal.returns-clause-left_out
returns-clause-left_out c =
    let g = c.args.graph.now in
    let before = c.args.self.now.phase in
    let after = c.blacken.new.self in
    on_ok_weaker c.blacken.result (λ b. left_some g (stage_of before) c.in-Some.name c.args.name (left_out_of before)
    _ c.in-Some.is (left_prepared g before c.in-Preparing.preparation after (λ s. c.in-Some.name ≡ s) c.in-Preparing.is
    b)) c.blacken.ensures.black
