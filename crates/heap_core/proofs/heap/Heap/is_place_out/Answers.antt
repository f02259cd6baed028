use Rattle.std.proofs.Common.{◌∙◌, ap, is_some}
use Rattle.heap_core.specs.Shape.{out_of}
use Rattle.heap_core.specs.Heap.{HeapState}
use Rattle.heap_core.proofs.Views.{is_out-seen}
use Rattle.heap_core.proofs.heap.Heap.is_place_out.Goals as goal

pub returns : goal.returns
returns c = c.is_place_out.ensures ∙ is_out-seen c.self.inside.arenas.arenas c.args.place.0
    ∙ ap (λ (h : HeapState). is_some (out_of h.shape c.args.place.0)) c.self.view_is
