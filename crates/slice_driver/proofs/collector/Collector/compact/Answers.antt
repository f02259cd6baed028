use Rattle.std.proofs.Common.{◌≡◌, ◌<◌, ◌≤◌, ◌∙◌, None, Result, Ok, Err, ap, sym, subst, length, arith}
use Rattle.mark_stack.specs.Stack.{Piles}
use Rattle.weak_maps.specs.WeakMaps.{IsSound as AreEntries}
use Rattle.compact.specs.declared.Compacted.{Compacted}
use Rattle.heap_core.specs.Heap.{HeapState, without_delayed}
use Rattle.barriers.specs.Pending.{pending}
use Rattle.slice_driver.specs.Collector.{CollectorState}
use Rattle.slice_driver.specs.Compacting.{CompactDone}
use Rattle.slice_driver.specs.Units.{IsSound}
use Rattle.slice_driver.specs.contracts.collector.Collector.{the_view}
use Rattle.slice_driver.specs.declared.compacting.CompactFault.{CompactFault}
use Rattle.slice_driver.specs.declared.compacting.CompactFault.TheVariants as fault
use Rattle.slice_driver.proofs.beginning.BegunSteps.{not_running}
use Rattle.slice_driver.proofs.packing.Compacted.{compact_done, kept_idle, refused_memory, refused_running}
use Rattle.slice_driver.proofs.packing.Compacted.{refused_zone}
use Rattle.slice_driver.proofs.packing.May.{may_idle}
use Rattle.slice_driver.proofs.packing.Viewed.{compacted_pending, compacted_viewed, may_plain}
use Rattle.slice_driver.proofs.collector.Collector.compact.Goals.{in-Ok, in-Err}
use Rattle.slice_driver.proofs.collector.Collector.compact.Goals as goal

pub compact-requires : goal.compact-requires
compact-requires c =
    let view : CollectorState = the_view c.self.inside in
    let idle_now : c.args.self.now.run ≡ None =
    not_running c.running.result c.args.self.now.run c.running.ensures.run c.if-running.false in
    let idle : view.run ≡ None = ap (λ (s : CollectorState). s.run) c.self.view_is ∙ idle_now in
    may_plain c.self.inside.heap (may_idle view c.requires.0
    (subst (λ (s : CollectorState). IsSound s c.requires.0) (sym c.self.view_is) c.requires.1) idle)

pub returns-then-running : goal.returns-then-running
returns-then-running c = refused_running c.args.self.now c.args.zone (c.running.ensures.run.0 c.if-running.true)

pub returns-then-index-zones : goal.returns-then-index-zones
returns-then-index-zones c =
    let now : CollectorState = c.args.self.now in
    let idle : now.run ≡ None = not_running c.running.result now.run c.running.ensures.run c.if-running.false in
    let same = ap (λ (s : CollectorState). length s.heap.shape.states) c.self.view_is in
    let far : length now.heap.shape.states ≤ c.args.zone =
    omega (arith, same, c.zones.ensures.value, c.index.ensures.value, c.if-index-zones.true) in
    refused_zone now c.args.zone idle far

pub returns : goal.returns
returns c =
    let view : CollectorState = the_view c.self.inside in
    let now : CollectorState = c.args.self.now in
    let m : HeapState = c.self.inside.heap in
    let k : HeapState = c.compact.new.heap in
    let idle_now : now.run ≡ None = not_running c.running.result now.run c.running.ensures.run c.if-running.false in
    let idle : view.run ≡ None = ap (λ (s : CollectorState). s.run) c.self.view_is ∙ idle_now in
    let made : c.args.zone < length view.heap.shape.states =
    omega (arith, c.zones.ensures.value, c.index.ensures.value, c.if-index-zones.false) in
    elim c.match-compact.branch [
      | in-Ok w ↦ (
          let small : c.args.zone < 64 = omega (arith, c.index.ensures.value, c.index.ensures.below) in
          let entries : AreEntries view.heap.shape.weak =
          subst (λ (s : CollectorState). AreEntries s.heap.shape.weak) (sym c.self.view_is) c.entries_law.ensures.sound
          in
          let compacted = compacted_viewed m k c.args.zone w.in-Ok.done w.in-Ok.ensures.ok in
          subst (λ (r : Result Compacted CompactFault). CompactDone now c.args.zone r
          (record view { heap = without_delayed k; stack = pending k c.self.inside.stack })) (sym w.result-is)
          (subst (λ (s : CollectorState). CompactDone s c.args.zone (Ok w.in-Ok.done)
          (record view { heap = without_delayed k; stack = pending k c.self.inside.stack })) c.self.view_is
          (subst (λ (p : Piles). CompactDone view c.args.zone (Ok w.in-Ok.done)
          (record view { heap = without_delayed k; stack = p }))
          (compacted_pending m k c.args.zone w.in-Ok.done w.in-Ok.ensures.ok c.self.inside.stack)
          (compact_done view c.args.zone w.in-Ok.done (without_delayed k)
          (record { idle = idle; small = small; made = made; entries = entries; compacted = compacted })))))
      | in-Err w ↦ subst (λ (r : Result Compacted CompactFault). CompactDone now c.args.zone r
          (record view { heap = without_delayed k; stack = pending k c.self.inside.stack })) (sym w.result-is)
          (subst (λ (s : CollectorState). CompactDone s c.args.zone (Err fault.NoMemory)
          (record view { heap = without_delayed k; stack = pending k c.self.inside.stack })) c.self.view_is
          (subst (λ (h : HeapState). CompactDone view c.args.zone (Err fault.NoMemory)
          (record view { heap = without_delayed h; stack = pending h c.self.inside.stack })) (sym w.in-Err.ensures.err)
          (refused_memory view c.args.zone idle made)))
    ]

pub invariant_of-self : goal.invariant_of-self
invariant_of-self c =
    let idle_now : c.args.self.now.run ≡ None =
    not_running c.running.result c.args.self.now.run c.running.ensures.run c.if-running.false in
    kept_idle c.compact.new.heap.shape c.self.inside.edges c.self.inside.order c.self.inside.phase
    (ap (λ (s : CollectorState). s.run) c.self.view_is ∙ idle_now)
