use Rattle.heap_core.proofs.Keyed.{finds}
use Rattle.heap_core.proofs.heap.Heap.found.Goals as goal

pub returns-in-Ok-clause-step : goal.returns-in-Ok-clause-step
returns-in-Ok-clause-step c =
    rw c.find_entry.ensures
    (finds c.args.self.now c.args.m c.args.k c.in-Ok.entry.map c.in-Ok.entry.key c.in-Ok.entry.value c.in-Ok.ensures.ok)
