-- Heaps of tests.
use Rattle.std.specs.Prelude.{◌≡◌, None}
use Rattle.heap_core.specs.Shape.{AreWhole}
use Rattle.heap_core.specs.Heap.{HeapState}
use Rattle.heap_core.specs.Answers.{IsSound}

-- the heap shows some graph, each arena has 64 slots, and nobody counts the edges that are read
pub data IsMarkable (h : HeapState) : Type 0 where
  markable : IsSound h → AreWhole h.shape.arenas → h.ledger ≡ None → IsMarkable h

-- the states of zones have changed, and nothing else that marking reads
pub record IsTakenOn (h new : HeapState) : Type 0 where
  pub arenas : new.shape.arenas ≡ h.shape.arenas
  pub comps : new.shape.comps ≡ h.shape.comps
  pub ledger : new.ledger ≡ h.ledger
