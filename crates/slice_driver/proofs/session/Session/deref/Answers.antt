use Rattle.std.proofs.Common.{Ok, Result, sym, subst}
use Rattle.gz_names.specs.declared.commands.WeakCmd.TheVariants as cmd
use Rattle.gz_names.specs.declared.replies.CmdFault.{CmdFault}
use Rattle.gz_names.specs.declared.replies.Reply.{Reply}
use Rattle.colour_defs.specs.Step.{named_or_null}
use Rattle.slice_driver.specs.WeakCalls.{WeakCalled}
use Rattle.slice_driver.proofs.abstraction.Named.{some_one}
use Rattle.slice_driver.proofs.marking.WeakOutcomes.{never_fails}
use Rattle.slice_driver.proofs.session.Session.deref.Goals as goal

pub unreachable-requires : goal.unreachable-requires
unreachable-requires g c =
    let called = c.in-Err.ensures in
    never_fails (cmd.Deref c.args.register c.args.slot) (λ why none. none) _ called.0 called.1 called.2.outcome_is

pub returns : goal.returns
returns g c =
    let called = c.in-Ok.ensures in
    subst (λ (o : Result Reply CmdFault). WeakCalled g.S.Flight.bits c.args.self.now
    (cmd.Deref c.args.register c.args.slot) o c.ask_weak.new.self)
    (sym (some_one (Ok (named_or_null c.in-Ok.found)) called.0 called.1)) called.2
