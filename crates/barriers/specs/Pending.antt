-- What is pending: the cells that marking has still to follow, by pile, in no particular order.
use Rattle.std.specs.Prelude.{◌++◌}
use Rattle.mark_stack.specs.Stack.{Piles}
use Rattle.heap_core.specs.Heap.{HeapState}

-- on each pile: the places on the pile of the stack, and those that are delayed for it
abbrev pub pending : HeapState → Piles → Piles
pending h p = record {
  black = p.black ++ h.delayed.black;
  gray = p.gray ++ h.delayed.gray;
  wake = p.wake ++ h.delayed.wake;
}
