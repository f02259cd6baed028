use Rattle.std.proofs.Common.{◌≡◌}
use Rattle.std.proofs.lemmas.Result.{on_ok_weaker}
use Rattle.judge.proofs.LeftStages.{left_prepared}
use Rattle.judge.proofs.world.World.turn_black.Goals as goal

pub returns-in-Preparing-clause-left_out : goal.returns-in-Preparing-clause-left_out
returns-in-Preparing-clause-left_out c =
    on_ok_weaker c.blacken-in-Preparing.result (λ b. left_prepared c.args.graph.now c.args.self.now.phase
    c.in-Preparing.preparation c.blacken-in-Preparing.new.self (λ s. c.args.name ≡ s) c.in-Preparing.is b)
    c.blacken-in-Preparing.ensures.black
