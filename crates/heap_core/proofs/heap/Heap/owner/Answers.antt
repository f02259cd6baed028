use Rattle.std.proofs.Common.{◌∙◌, ap}
use Rattle.heap_core.specs.Heap.{HeapState}
use Rattle.heap_core.specs.Shape.{owner_of}
use Rattle.heap_core.proofs.Views.{owner-shown}
use Rattle.heap_core.proofs.heap.Heap.owner.Goals as goal

pub returns : goal.returns
returns c = c.owner.ensures ∙ owner-shown c.self.inside.arenas.arenas c.args.arena
    ∙ ap (λ (h : HeapState). owner_of h.shape c.args.arena) c.self.view_is
