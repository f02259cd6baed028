use Rattle.judge.proofs.Cells.{none_named}
use Rattle.judge.proofs.world.named_in.Goals as goal

pub returns-in_default : goal.returns-in_default
returns-in_default c = none_named c.args.reply.now c.in_default.not-Named
