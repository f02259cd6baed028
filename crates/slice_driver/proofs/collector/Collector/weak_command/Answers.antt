use Rattle.std.proofs.Common.{Result, Ok, ap, refl, sym, subst}
use Rattle.gz_names.specs.declared.commands.WeakCmd.{WeakCmd}
use Rattle.gz_names.specs.declared.commands.WeakCmd.TheVariants as cmd
use Rattle.gz_names.specs.declared.replies.CmdFault.{CmdFault}
use Rattle.gz_names.specs.declared.replies.Reply.{Reply}
use Rattle.weak_refs.specs.WeakNames.{with_slot}
use Rattle.heap_core.specs.Heap.{HeapState, reg_of}
use Rattle.slice_driver.specs.Collector.{CollectorState}
use Rattle.slice_driver.specs.WeakCommands.{WeakCommandDone}
use Rattle.slice_driver.specs.contracts.collector.Collector.{the_view}
use Rattle.slice_driver.proofs.commanding.DerefAnswers.{deref_done}
use Rattle.slice_driver.proofs.commanding.WeakArms.{SeenBy, kept_names, unwatch_arm, unwatches_names}
use Rattle.slice_driver.proofs.commanding.WeakArms.{watch_arm, watches_names, weaken_arm}
use Rattle.slice_driver.proofs.collector.Collector.weak_command.Goals as goal

-- the heap of a collector
abbrev heap_of : CollectorState → HeapState
heap_of c = c.heap

pub returns-in-Weaken : goal.returns-in-Weaken
returns-in-Weaken g c =
    let seen : SeenBy c.args.self.now = record {
      seen = λ h. the_view (record c.self.inside { heap = h });
      heap = c.self.inside.heap;
      view_is = c.self.view_is;
      here = ap heap_of c.self.view_is;
      alike = λ ns. refl;
    } in
    subst (λ (k : WeakCmd). WeakCommandDone g.F.Flight.bits g.F.Flight.origin c.args.self.now c.args.flight.now k
    c.do_weaken.result (seen.seen c.do_weaken.new.self) c.args.flight.now) (sym c.in-Weaken.is)
    (subst (λ (a : Result Reply CmdFault). WeakCommandDone g.F.Flight.bits g.F.Flight.origin c.args.self.now
    c.args.flight.now (cmd.Weaken c.in-Weaken.q c.in-Weaken.r) a (seen.seen c.do_weaken.new.self) c.args.flight.now)
    (sym c.do_weaken.ensures.answer)
    (weaken_arm g.F.Flight.bits g.F.Flight.origin c.args.self.now c.args.flight.now c.requires.sound seen
    c.do_weaken.new.self c.in-Weaken.q c.in-Weaken.r c.do_weaken.ensures.weakens))

pub returns-in-Deref : goal.returns-in-Deref
returns-in-Deref g c =
    subst (λ (k : WeakCmd). WeakCommandDone g.F.Flight.bits g.F.Flight.origin c.args.self.now c.args.flight.now k
    (Ok c.deref.result) c.deref.new.self c.deref.new.flight) (sym c.in-Deref.is)
    (deref_done g.F.Flight.bits g.F.Flight.origin c.args.self.now c.args.flight.now c.deref.new.flight (record {
      r = c.in-Deref.r;
      q = c.in-Deref.q;
      answer = c.deref.result;
      new = c.deref.new.self;
      sound = c.requires.sound;
      derefs = c.deref.ensures.derefs;
      origin = c.deref.ensures.origin;
    }))

pub returns-in-Watch : goal.returns-in-Watch
returns-in-Watch g c =
    let seen : SeenBy c.args.self.now = record {
      seen = λ h. the_view (record c.self-in-Watch.inside { heap = h });
      heap = c.self-in-Watch.inside.heap;
      view_is = c.self-in-Watch.view_is;
      here = ap heap_of c.self-in-Watch.view_is;
      alike = λ ns. refl;
    } in
    subst (λ (k : WeakCmd). WeakCommandDone g.F.Flight.bits g.F.Flight.origin c.args.self.now c.args.flight.now k
    c.do_watch.result (seen.seen c.do_watch.new.self) c.args.flight.now) (sym c.in-Watch.is)
    (watch_arm g.F.Flight.bits g.F.Flight.origin c.args.self.now c.args.flight.now c.requires.sound seen
    c.do_watch.result c.do_watch.new.self c.in-Watch.r c.do_watch.ensures)

pub returns-in-Unwatch : goal.returns-in-Unwatch
returns-in-Unwatch g c =
    let seen : SeenBy c.args.self.now = record {
      seen = λ h. the_view (record c.self-in-Unwatch.inside { heap = h });
      heap = c.self-in-Unwatch.inside.heap;
      view_is = c.self-in-Unwatch.view_is;
      here = ap heap_of c.self-in-Unwatch.view_is;
      alike = λ ns. refl;
    } in
    subst (λ (k : WeakCmd). WeakCommandDone g.F.Flight.bits g.F.Flight.origin c.args.self.now c.args.flight.now k
    c.do_unwatch.result (seen.seen c.do_unwatch.new.self) c.args.flight.now) (sym c.in-Unwatch.is)
    (unwatch_arm g.F.Flight.bits g.F.Flight.origin c.args.self.now c.args.flight.now c.requires.sound seen
    c.do_unwatch.result c.do_unwatch.new.self c.in-Unwatch.r c.do_unwatch.ensures)

pub invariant_of-self : goal.invariant_of-self
invariant_of-self g c = kept_names c.self.inside.heap c.do_weaken.new.self
    (with_slot c.self.inside.heap.weak_names c.in-Weaken.q (reg_of c.self.inside.heap c.in-Weaken.r))
    c.self.inside.edges c.self.inside.order c.self.inside.phase c.do_weaken.ensures.weakens c.self.invariant

pub invariant_of-self-in-Watch : goal.invariant_of-self-in-Watch
invariant_of-self-in-Watch g c =
    let inside = c.self-in-Watch.inside in
    let changed = watches_names inside.heap _ c.do_watch.result c.do_watch.new.self c.do_watch.ensures in
    kept_names inside.heap c.do_watch.new.self changed.0 inside.edges inside.order inside.phase changed.1
    c.self-in-Watch.invariant

pub invariant_of-self-in-Unwatch : goal.invariant_of-self-in-Unwatch
invariant_of-self-in-Unwatch g c =
    let inside = c.self-in-Unwatch.inside in
    let changed = unwatches_names inside.heap _ c.do_unwatch.result c.do_unwatch.new.self c.do_unwatch.ensures in
    kept_names inside.heap c.do_unwatch.new.self changed.0 inside.edges inside.order inside.phase changed.1
    c.self-in-Unwatch.invariant
