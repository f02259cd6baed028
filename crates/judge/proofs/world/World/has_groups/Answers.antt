use Rattle.std.proofs.Common.{◌↔◌, IsTrue, subst, sym}
use Rattle.judge.specs.Stages.{HasGroups, stage_of}
use Rattle.judge.specs.declared.world.Phase.{Phase}
use Rattle.judge.proofs.Stages.{none_left}
use Rattle.judge.proofs.world.World.has_groups.Goals as goal

pub returns-in-Collecting : goal.returns-in-Collecting
returns-in-Collecting c =
    subst (λ (p : Phase). IsTrue c.has_groups.result ↔ HasGroups (stage_of p)) (sym c.in-Collecting.is)
    c.has_groups.ensures

pub returns-in_default : goal.returns-in_default
returns-in_default c = none_left c.args.self.now.phase (λ k is. c.in_default.not-Collecting k is)
