use Rattle.std.proofs.Common.{◌∙◌, ap}
use Rattle.heap_core.specs.Heap.{HeapState}
use Rattle.heap_core.specs.Sweeping.{held_in_all}
use Rattle.heap_core.proofs.Views.{held-seen}
use Rattle.heap_core.proofs.heap.Heap.count.Goals as goal

pub returns : goal.returns
returns c = c.count.ensures.value
    ∙ (held-seen c.self.inside.arenas.arenas ∙ ap (λ (h : HeapState). held_in_all h.shape.arenas) c.self.view_is)
