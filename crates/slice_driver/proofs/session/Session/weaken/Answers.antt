use Rattle.std.proofs.Common.{Ok, Result, sym, subst}
use Rattle.gz_names.specs.declared.commands.WeakCmd.TheVariants as cmd
use Rattle.gz_names.specs.declared.replies.CmdFault.{CmdFault}
use Rattle.gz_names.specs.declared.replies.Reply.{Reply}
use Rattle.gz_names.specs.declared.replies.Reply.TheVariants as reply
use Rattle.slice_driver.specs.WeakCalls.{WeakCalled}
use Rattle.slice_driver.proofs.abstraction.Named.{some_one}
use Rattle.slice_driver.proofs.marking.WeakOutcomes.{never_fails}
use Rattle.slice_driver.proofs.session.Session.weaken.Goals as goal

pub unreachable-requires : goal.unreachable-requires
unreachable-requires g c =
    let called = c.in-Err.ensures in
    never_fails (cmd.Weaken c.args.slot c.args.register) (λ why none. none) _ called.0 called.1 called.2.outcome_is

pub returns : goal.returns
returns g c =
    let called = c.in-Ok.ensures in
    subst (λ (o : Result Reply CmdFault). WeakCalled g.S.Flight.bits c.args.self.now
    (cmd.Weaken c.args.slot c.args.register) o c.ask_weak.new.self)
    (sym (some_one (Ok reply.Accepted) called.0 called.1)) called.2
