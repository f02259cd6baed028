use Rattle.judge.proofs.Cells.{none_woken}
use Rattle.judge.proofs.world.woken_in.Goals as goal

pub returns-in_default : goal.returns-in_default
returns-in_default c =
    none_woken c.args.command.now c.args.reply.now c.in_default.not-New c.in_default.not-Map c.in_default.not-Wrap
    c.in_default.not-Expose
