use Rattle.std.proofs.Common.{◌≡◌, ◌↔◌, Some, ap, subst, sym}
use Rattle.heap_core.specs.Heap.{HeapState, without_delayed}
use Rattle.barriers.specs.Pending.{pending}
use Rattle.slice_driver.specs.Collector.{CollectorState, IsKept}
use Rattle.slice_driver.specs.Represents.{Represents}
use Rattle.slice_driver.specs.contracts.collector.Collector.{the_view}
use Rattle.slice_driver.proofs.abstraction.Counting.{counted, counts_alike}
use Rattle.slice_driver.proofs.collector.Collector.count_edges.Goals as goal

pub invariant_of-self : goal.invariant_of-self
invariant_of-self g c = subst (λ (z : HeapState). IsKept z.shape c.self.inside.edges c.self.inside.order
    c.self.inside.phase) (sym c.count_edges.ensures.ledger) c.self.invariant

pub returns-clause-worlds : goal.returns-clause-worlds
returns-clause-worlds g c =
    let v : CollectorState = the_view c.self.inside in
    let k : HeapState = c.count_edges.new.self in
    let is : record v { heap = without_delayed k; stack = pending k c.self.inside.stack }
    ≡ counted v (Some g.L.Ledger.name) =
    ap (λ (z : HeapState). record v { heap = without_delayed z; stack = pending z c.self.inside.stack })
    c.count_edges.ensures.ledger in
    λ flown w. subst (λ (x : CollectorState). Represents c.args.self.now flown w ↔ Represents x flown w) (sym is)
    (subst (λ (x : CollectorState). Represents x flown w ↔ Represents (counted v (Some g.L.Ledger.name)) flown w)
    c.self.view_is (counts_alike v (Some g.L.Ledger.name) flown w))
