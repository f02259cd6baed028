use Rattle.std.proofs.Common.{◌∙◌, ap}
use Rattle.std.proofs.lemmas.Option.{IfSome_then}
use Rattle.heap_core.specs.Heap.{HeapState}
use Rattle.heap_core.proofs.Views.{among-seen, none_then}
use Rattle.heap_core.proofs.heap.Heap.next_in.Goals as goal

pub returns-clause-owned : goal.returns-clause-owned
returns-clause-owned c =
    rw (← ap (λ (h : HeapState). h.shape) c.self.view_is)
    (IfSome_then c.next_in.result c.next_in.ensures.among
    (λ a is. (is.0, among-seen c.self.inside.arenas.arenas c.args.zones.bits a ∙ is.1)))

pub returns-clause-lowest : goal.returns-clause-lowest
returns-clause-lowest c =
    rw (← ap (λ (h : HeapState). h.shape) c.self.view_is)
    (IfSome_then c.next_in.result c.next_in.ensures.lowest
    (λ a low other ge lt. among-seen c.self.inside.arenas.arenas c.args.zones.bits other ∙ low other ge lt))

pub returns-clause-none : goal.returns-clause-none
returns-clause-none c =
    rw (← ap (λ (h : HeapState). h.shape) c.self.view_is)
    (none_then c.next_in.result c.next_in.ensures.none
    (λ none other ge. among-seen c.self.inside.arenas.arenas c.args.zones.bits other ∙ none other ge))
