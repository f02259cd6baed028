use Rattle.std.proofs.Common.{ap, refl, subst, sym}
use Rattle.heap_core.specs.Heap.{HeapState}
use Rattle.slice_driver.specs.Collector.{CollectorState}
use Rattle.slice_driver.specs.Pins.{RootDone, UnpinsIn}
use Rattle.slice_driver.specs.contracts.collector.Collector.{the_view}
use Rattle.slice_driver.proofs.pinning.Pinned.{SeenBy, kept_held, not_pinned, unpin_done, unpinned_same}
use Rattle.slice_driver.proofs.collector.Collector.unpin.Goals.{in-None, in-Some}
use Rattle.slice_driver.proofs.collector.Collector.unpin.Goals as goal

-- the heap of a collector
abbrev heap_of : CollectorState → HeapState
heap_of c = c.heap

pub returns : goal.returns
returns c =
    let by : SeenBy c.args.self.now = record {
      seen = λ h. the_view (record c.self.inside { heap = h });
      heap = c.self.inside.heap;
      view_is = c.self.view_is;
      here = ap heap_of c.self.view_is;
      alike = λ regs. refl;
    } in
    elim c.match-unpin.branch [
      | in-Some w ↦ subst (λ r. RootDone (UnpinsIn c.args.root) c.args.self.now c.args.root r
          (by.seen c.unpin.new.self)) (sym w.result-is)
          (unpin_done c.args.self.now by tt c.args.root _ c.unpin.new.self (sym w.in-Some.ensures.held)
          w.in-Some.ensures.rest)
      | in-None w ↦ subst (λ r. RootDone (UnpinsIn c.args.root) c.args.self.now c.args.root r
          (by.seen c.unpin.new.self)) (sym w.result-is)
          (not_pinned c.args.self.now by (UnpinsIn c.args.root) c.args.root _ c.unpin.new.self
          (sym w.in-None.ensures.held)
          (unpinned_same c.self.inside.heap c.unpin.new.self c.args.root (sym w.in-None.ensures.held)
          w.in-None.ensures.rest))
    ]

pub invariant_of-self : goal.invariant_of-self
invariant_of-self c = kept_held c.self.inside.heap c.unpin.new.self _ c.self.inside.edges c.self.inside.order
    c.self.inside.phase c.unpin.ensures.rest c.self.invariant
