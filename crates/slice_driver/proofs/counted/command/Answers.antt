use Rattle.std.proofs.Common.{Some, ap, subst, sym}
use Rattle.heap_core.specs.Effects.{HasRoom}
use Rattle.slice_driver.specs.Calls.{CommandDone}
use Rattle.slice_driver.specs.Collector.{CollectorState}
use Rattle.slice_driver.specs.Units.{IsSound, KeepsFreedWords}
use Rattle.slice_driver.proofs.marking.Sessions.{room_counted, sound_counted}
use Rattle.slice_driver.proofs.taking_in.TakingDue.{out_kept}
use Rattle.slice_driver.proofs.counted.command.Goals as goal

pub command-requires-clause-sound : goal.command-requires-clause-sound
command-requires-clause-sound g c =
    subst (λ (x : CollectorState). IsSound x (g.S.Flight.bits c.args.sweeper.now))
    (sym c.count_edges-steps.ensures.ledger)
    (sound_counted c.args.collector.now (Some g.L.Ledger.name) (g.S.Flight.bits c.args.sweeper.now) c.requires.sound)

pub command-requires-clause-few : goal.command-requires-clause-few
command-requires-clause-few g c =
    subst (λ (x : CollectorState). HasRoom x.heap c.args.cmd) (sym c.count_edges-steps.ensures.ledger)
    (room_counted c.args.collector.now (Some g.L.Ledger.name) c.args.cmd c.requires.few)

pub returns-clause-done : goal.returns-clause-done
returns-clause-done g c =
    subst (λ (x : CollectorState). CommandDone g.S.Flight.bits g.S.Flight.origin x c.args.sweeper.now c.args.cmd
    c.command.result c.command.new.self c.command.new.flight) c.count_edges-steps.ensures.ledger c.command.ensures

pub returns-clause-out : goal.returns-clause-out
returns-clause-out g c =
    out_kept c.args.collector.now.heap.shape c.command.new.self.heap.shape _ _
    (ap g.S.Sweeping.left c.command.ensures.origin)
    (subst (λ (x : CollectorState). KeepsFreedWords x.heap.shape c.command.new.self.heap.shape)
    c.count_edges-steps.ensures.ledger c.command.ensures.words) c.requires.out
