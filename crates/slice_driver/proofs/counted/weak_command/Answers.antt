use Rattle.std.proofs.Common.{Some, ap, subst, sym}
use Rattle.slice_driver.specs.Collector.{CollectorState}
use Rattle.slice_driver.specs.Units.{IsSound, KeepsFreedWords}
use Rattle.slice_driver.specs.WeakCommands.{WeakCommandDone}
use Rattle.slice_driver.proofs.marking.Sessions.{sound_counted}
use Rattle.slice_driver.proofs.taking_in.TakingDue.{out_kept}
use Rattle.slice_driver.proofs.counted.weak_command.Goals as goal

pub weak_command-requires-clause-sound : goal.weak_command-requires-clause-sound
weak_command-requires-clause-sound g c =
    subst (λ (x : CollectorState). IsSound x (g.S.Flight.bits c.args.sweeper.now))
    (sym c.count_edges-steps.ensures.ledger)
    (sound_counted c.args.collector.now (Some g.L.Ledger.name) (g.S.Flight.bits c.args.sweeper.now) c.requires.sound)

pub returns-clause-done : goal.returns-clause-done
returns-clause-done g c =
    subst (λ (x : CollectorState). WeakCommandDone g.S.Flight.bits g.S.Flight.origin x c.args.sweeper.now c.args.cmd
    c.weak_command.result c.weak_command.new.self c.weak_command.new.flight) c.count_edges-steps.ensures.ledger
    c.weak_command.ensures

pub returns-clause-out : goal.returns-clause-out
returns-clause-out g c =
    out_kept c.args.collector.now.heap.shape c.weak_command.new.self.heap.shape _ _
    (ap g.S.Sweeping.left c.weak_command.ensures.origin)
    (subst (λ (x : CollectorState). KeepsFreedWords x.heap.shape c.weak_command.new.self.heap.shape)
    c.count_edges-steps.ensures.ledger c.weak_command.ensures.words) c.requires.out
