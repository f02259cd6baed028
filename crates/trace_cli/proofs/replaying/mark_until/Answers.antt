use Rattle.std.proofs.Common.{◌∙◌, refl, arith}
use Rattle.trace_cli.proofs.Marked.{both_quiet, none_done, units_done}
use Rattle.trace_cli.proofs.replaying.mark_until.Goals as goal

pub loop-collector-init : goal.loop-collector-init
loop-collector-init g c = none_done _ _ c.requires.stands c.requires.running refl

pub quiet_units-requires-clause-counted : goal.quiet_units-requires-clause-counted
quiet_units-requires-clause-counted g c = c.loop-collector.invariant.size.ledger ∙ c.requires.counted

pub quiet_units-requires-clause-sound : goal.quiet_units-requires-clause-sound
quiet_units-requires-clause-sound g c = c.loop-collector.invariant.stands.sound

pub quiet_units-requires-clause-running : goal.quiet_units-requires-clause-running
quiet_units-requires-clause-running g c = c.loop-collector.invariant.running

pub loop-collector-preserved : goal.loop-collector-preserved
loop-collector-preserved g c =
    let so = c.loop-collector.invariant in
    both_quiet _ _ _ so
    (units_done _ _ 64 c.quiet_units.result so.stands so.running (omega arith) c.quiet_units.ensures.does)

pub loop-collector-smaller : goal.loop-collector-smaller
loop-collector-smaller g c = let less = c.quiet_units.ensures.does.done.less in omega (arith, less)

pub returns-then-quiet_units-lt-UNITS : goal.returns-then-quiet_units-lt-UNITS
returns-then-quiet_units-lt-UNITS g c =
    let so = c.loop-collector.invariant in
    both_quiet _ _ _ so
    (units_done _ _ 64 c.quiet_units.result so.stands so.running (omega arith) c.quiet_units.ensures.does)

pub returns : goal.returns
returns g c = c.loop-collector.invariant
