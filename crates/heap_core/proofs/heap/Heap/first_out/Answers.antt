use Rattle.std.proofs.Common.{ap}
use Rattle.std.proofs.lemmas.Option.{IfSome_then}
use Rattle.heap_core.specs.Heap.{HeapState}
use Rattle.heap_core.proofs.Views.{none_then, not_out-seen, out-seen}
use Rattle.heap_core.proofs.heap.Heap.first_out.Goals as goal

pub returns-clause-out : goal.returns-clause-out
returns-clause-out c =
    rw (← ap (λ (h : HeapState). h.shape) c.self.view_is)
    (IfSome_then c.first_out.result c.first_out.ensures.out (λ a is. out-seen c.self.inside.arenas.arenas a is))

pub returns-clause-lowest : goal.returns-clause-lowest
returns-clause-lowest c =
    rw (← ap (λ (h : HeapState). h.shape) c.self.view_is)
    (IfSome_then c.first_out.result c.first_out.ensures.lowest
    (λ a low other lt. not_out-seen c.self.inside.arenas.arenas other (low other lt)))

pub returns-clause-none : goal.returns-clause-none
returns-clause-none c =
    rw (← ap (λ (h : HeapState). h.shape) c.self.view_is)
    (none_then c.first_out.result c.first_out.ensures.none
    (λ none other. not_out-seen c.self.inside.arenas.arenas other (none other)))
