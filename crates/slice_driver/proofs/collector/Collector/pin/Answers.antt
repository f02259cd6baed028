use Rattle.std.proofs.Common.{◌∙◌, ap, refl, sym, subst}
use Rattle.heap_core.specs.Heap.{HeapState, reg_of}
use Rattle.slice_driver.specs.Collector.{CollectorState}
use Rattle.slice_driver.specs.Pins.{PinDone}
use Rattle.slice_driver.specs.contracts.collector.Collector.{the_view}
use Rattle.slice_driver.proofs.pinning.Pinned.{SeenBy, kept_held, kept_same, pin_done, pin_empty, pin_wanted}
use Rattle.slice_driver.proofs.collector.Collector.pin.Goals.{in-Ok, in-Err}
use Rattle.slice_driver.proofs.collector.Collector.pin.Goals as goal

-- the heap of a collector
abbrev heap_of : CollectorState → HeapState
heap_of c = c.heap

pub returns-in_default : goal.returns-in_default
returns-in_default c = pin_empty c.args.self.now c.args.register
    (ap (λ (h : HeapState). reg_of h c.args.register) (sym (ap heap_of c.self.view_is))
    ∙ sym c.in_default.ensures.value)

pub returns : goal.returns
returns c =
    let by : SeenBy c.args.self.now = record {
      seen = λ h. the_view (record c.self.inside { heap = h });
      heap = c.self.inside.heap;
      view_is = c.self.view_is;
      here = ap heap_of c.self.view_is;
      alike = λ regs. refl;
    } in
    elim c.match-pin.branch [
      | in-Ok w ↦ subst (λ r. PinDone c.args.self.now c.args.register r (by.seen c.pin.new.self)) (sym w.result-is)
          (pin_done c.args.self.now by c.args.register w.in-Ok.root c.in-Some.place c.pin.new.self
          (sym c.in-Some.ensures.value) w.in-Ok.ensures.pins)
      | in-Err w ↦ subst (λ r. PinDone c.args.self.now c.args.register r (by.seen c.pin.new.self)) (sym w.result-is)
          (pin_wanted c.args.self.now by c.args.register c.in-Some.place c.pin.new.self
          (sym c.in-Some.ensures.value) w.in-Err.ensures.err)
    ]

pub invariant_of-self : goal.invariant_of-self
invariant_of-self c =
    let inside = c.self.inside in
    elim c.match-pin.branch [
      | in-Ok w ↦ kept_held inside.heap c.pin.new.self c.pin.new.self.shape.regs inside.edges inside.order inside.phase
          w.in-Ok.ensures.pins.rest c.self.invariant
      | in-Err w ↦ kept_same inside.heap c.pin.new.self inside.edges inside.order inside.phase w.in-Err.ensures.err
          c.self.invariant
    ]
