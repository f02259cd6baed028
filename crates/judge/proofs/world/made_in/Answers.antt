use Rattle.judge.proofs.Cells.{none_made}
use Rattle.judge.proofs.world.made_in.Goals as goal

pub returns-in_default : goal.returns-in_default
returns-in_default c = none_made c.args.reply.now c.in_default.not-Made
