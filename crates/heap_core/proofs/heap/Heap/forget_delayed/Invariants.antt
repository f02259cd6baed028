use Rattle.std.proofs.Common.{◌≡◌, ◌≢◌, length}
use Rattle.mark_stack.specs.Stack.{pile_of}
use Rattle.mark_stack.specs.declared.stack.Pile.{Pile}
use Rattle.heap_core.proofs.heap.Heap.forget_delayed.Given as goal

abbrev pub invariant-loop-pile : goal.invariant-loop-pile
invariant-loop-pile l = record {
  rest : l.self ≡ record l.initial.self { delayed = l.self.delayed };
  others : (other : Pile) → other ≢ l.pile
      → pile_of l.self.delayed other ≡ pile_of l.initial.self.delayed other;
}

abbrev pub decreases-loop-pile : goal.decreases-loop-pile
decreases-loop-pile l = length (pile_of l.self.delayed l.pile)
