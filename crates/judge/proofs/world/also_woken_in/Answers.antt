use Rattle.judge.proofs.Cells.{none_also}
use Rattle.judge.proofs.world.also_woken_in.Goals as goal

pub returns-in_default : goal.returns-in_default
returns-in_default c = none_also c.args.command.now c.args.reply.now c.in_default.not-Wrap c.in_default.not-Unwrap
