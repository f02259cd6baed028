use Rattle.std.proofs.Common.{ap, subst, sym}
use Rattle.judge.specs.Stages.{Stage, IsDueOf, shown, stage_of}
use Rattle.judge.proofs.Stages.{due_in}
use Rattle.judge.proofs.world.World.due_report.Goals as goal

pub returns-in-Preparing : goal.returns-in-Preparing
returns-in-Preparing c = (c.in_default.ensures.none, (c.in-Preparing.field-0.zones, ap stage_of c.in-Preparing.is))

pub returns-in-Collecting : goal.returns-in-Collecting
returns-in-Collecting c =
    due_in c.due_report.result (shown c.args.self.now) c.in_default.ensures.none
    (subst (λ (s : Stage). IsDueOf c.due_report.result s) (sym (ap stage_of c.in-Collecting.is)) c.due_report.ensures)
