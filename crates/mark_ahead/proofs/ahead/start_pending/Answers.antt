use Rattle.std.proofs.Common.{ap, arith, length}
use Rattle.mark_stack.proofs.Pushed.{more_length}
use Rattle.heap_core.specs.Heap.{HeapState}
use Rattle.barriers.specs.Pending.{pending}
use Rattle.mark_ahead.proofs.AllStarted.{starts_next}
use Rattle.mark_ahead.proofs.ahead.start_pending.Goals as goal

pub loop-cell-smaller : goal.loop-cell-smaller
loop-cell-smaller c =
    let long = more_length (pending c.next_pending.new.heap c.next_pending.new.stack).black
    (pending c.loop-cell.heap c.loop-cell.stack).black c.in-Some.cell c.in-Some.ensures.some.more in
    let same = ap (λ (z : HeapState). length (pending z c.next_pending.new.stack).black) c.start.ensures.rest in
    omega (arith, long, same)

pub loop-cell-preserved : goal.loop-cell-preserved
loop-cell-preserved c = starts_next c.args.heap.now c.args.stack.now c.loop-cell.heap c.loop-cell.stack
    c.loop-cell.invariant c.next_pending.new.heap c.next_pending.new.stack c.in-Some.cell c.next_pending.ensures.rest
    c.in-Some.ensures.some c.start.new.self c.start.ensures.rest c.start.ensures.sound (record {
      map = c.start.ensures.map;
      key = c.start.ensures.key;
      delegate = c.start.ensures.delegate;
      parallel = c.start.ensures.parallel;
    })
