use Rattle.std.proofs.Common.{ap, refl, subst, sym}
use Rattle.heap_core.specs.Heap.{HeapState}
use Rattle.slice_driver.specs.Collector.{CollectorState}
use Rattle.slice_driver.specs.Pins.{LoadsIn, RootDone}
use Rattle.slice_driver.specs.contracts.collector.Collector.{the_view}
use Rattle.slice_driver.proofs.pinning.Pinned.{SeenBy, kept_held, kept_same, load_done, not_pinned}
use Rattle.slice_driver.proofs.collector.Collector.load.Goals.{in-None, in-Some}
use Rattle.slice_driver.proofs.collector.Collector.load.Goals as goal

-- the heap of a collector
abbrev heap_of : CollectorState → HeapState
heap_of c = c.heap

pub returns : goal.returns
returns c =
    let by : SeenBy c.args.self.now = record {
      seen = λ h. the_view (record c.self.inside { heap = h });
      heap = c.self.inside.heap;
      view_is = c.self.view_is;
      here = ap heap_of c.self.view_is;
      alike = λ regs. refl;
    } in
    elim c.match-load.branch [
      | in-Some w ↦ subst (λ r. RootDone (LoadsIn c.args.register c.args.root) c.args.self.now c.args.root r
          (by.seen c.load.new.self)) (sym w.result-is)
          (load_done c.args.self.now by tt c.args.register c.args.root _ c.load.new.self
          (sym w.in-Some.ensures.held) w.in-Some.ensures.loads)
      | in-None w ↦ subst (λ r. RootDone (LoadsIn c.args.register c.args.root) c.args.self.now c.args.root r
          (by.seen c.load.new.self)) (sym w.result-is)
          (not_pinned c.args.self.now by (LoadsIn c.args.register c.args.root) c.args.root _ c.load.new.self
          (sym w.in-None.ensures.held) w.in-None.ensures.none)
    ]

pub invariant_of-self : goal.invariant_of-self
invariant_of-self c =
    let inside = c.self.inside in
    elim c.match-load.branch [
      | in-Some w ↦ kept_held inside.heap c.load.new.self _ inside.edges inside.order inside.phase
          w.in-Some.ensures.loads c.self.invariant
      | in-None w ↦ kept_same inside.heap c.load.new.self inside.edges inside.order inside.phase
          w.in-None.ensures.none c.self.invariant
    ]
