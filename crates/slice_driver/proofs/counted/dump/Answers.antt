use Rattle.std.proofs.Common.{Some, subst, sym}
use Rattle.colour_defs.specs.Dumps.{IsDump}
use Rattle.colour_defs.specs.World.{IsSettled}
use Rattle.slice_driver.specs.Collector.{CollectorState}
use Rattle.slice_driver.specs.Units.{IsSound}
use Rattle.slice_driver.proofs.marking.Sessions.{dump_counted, sound_counted}
use Rattle.slice_driver.proofs.counted.dump.Goals as goal

pub dump-requires-clause-sound : goal.dump-requires-clause-sound
dump-requires-clause-sound g c =
    subst (λ (x : CollectorState). IsSound x (g.S.Flight.bits c.args.sweeper.now))
    (sym c.count_edges-steps.ensures.ledger)
    (sound_counted c.args.collector.now (Some g.L.Ledger.name) (g.S.Flight.bits c.args.sweeper.now) c.requires.sound)

pub returns-clause-lines : goal.returns-clause-lines
returns-clause-lines g c = dump_counted c.args.collector.now c.count_edges-steps.new.self
    (g.S.Flight.bits c.args.sweeper.now) c.dump.result
    (λ w lines. IsSettled w → IsDump w lines.items) c.count_edges-steps.ensures.worlds c.dump.ensures.lines

pub returns-clause-same : goal.returns-clause-same
returns-clause-same g c = λ w rep. c.dump.ensures.same w
    ((c.count_edges-steps.ensures.worlds (g.S.Flight.bits c.args.sweeper.now) w).0 rep)
