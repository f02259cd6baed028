use Rattle.std.proofs.Common.{inr}
use Rattle.std.proofs.KnownBytes.{Appends-nil}
use Rattle.trace_cli.proofs.Replied.{replied}
use Rattle.trace_cli.proofs.Slicing.{idle_breaks, idle_writes}
use Rattle.trace_cli.proofs.Started.{begun, reset_begins, started}
use Rattle.trace_cli.proofs.Units.{not_running}
use Rattle.trace_cli.proofs.begin.begin_reset.Goals as goal

pub returns-then-not-running-clause-answer : goal.returns-then-not-running-clause-answer
returns-then-not-running-clause-answer g c =
    let idle = not_running c.running.result c.args.collector.now.run c.running.ensures.run c.if-not-running.true in
    started c.write_last.result c.requires.none
    (replied c.write_last.result c.write_last.ensures.fault c.write_last.ensures.ok c.write_last.ensures.err
    (λ written. idle_writes c.args.collector.now (g.F.Flight.bits c.args._flight.now) _ _ _ (λ w refuses. inr refuses)
    idle written)
    (λ written. idle_breaks c.args.collector.now (g.F.Flight.bits c.args._flight.now) _ _ _ (λ w refuses. inr refuses)
    idle written))

pub returns-clause-answer : goal.returns-clause-answer
returns-clause-answer g c = begun (reset_begins c.args.collector.now (g.F.Flight.bits c.args._flight.now)
    (c.running.ensures.run.0 c.if-not-running.false)) (Appends-nil _)
