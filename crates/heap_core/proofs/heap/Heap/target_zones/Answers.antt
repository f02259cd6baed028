use Rattle.std.proofs.Common.{ap, sym, ◌∙◌}
use Rattle.heap_core.specs.Heap.{HeapState}
use Rattle.heap_core.specs.contracts.heap.Heap.{the_view}
use Rattle.wrappers.specs.WrapperMaps.{list_of}
use Rattle.heap_core.proofs.NotedTargets.{none-listed, target-noted}
use Rattle.heap_core.proofs.heap.Heap.target_zones.Goals as goal

pub returns-then-has_none-clause-targets : goal.returns-then-has_none-clause-targets
returns-then-has_none-clause-targets c = λ p target listed. absurd
    (none-listed c.args.self.now.shape c.args.zone p target
    (sym (ap (λ (h : HeapState). list_of h.shape.wrappers c.args.zone) c.self.view_is) ∙ c.has_none.ensures.value.0
    c.if-has_none.true) listed)

pub returns-else-has_none-clause-targets : goal.returns-else-has_none-clause-targets
returns-else-has_none-clause-targets c = target-noted (the_view c.self.inside) c.args.self.now c.self.inside.arenas
    c.self.inside.target_zones c.args.zone c.of.result.bits c.self.view_is c.self.invariant c.of.ensures
