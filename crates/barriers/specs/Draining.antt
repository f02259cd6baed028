-- Following all woken cells.
use Rattle.std.specs.Prelude.{◌≡◌, ◌≤◌, ◌+◌, ◌*◌, [], ℕ, Option, Some, length}
use Rattle.cell_bits.specs.declared.bits.Bits.{Bits}
use Rattle.mark_stack.specs.Stack.{Piles}
use Rattle.heap_core.specs.Heap.{HeapState, joined}
use Rattle.barriers.specs.Reached.{Reached}
use Rattle.barriers.specs.Colours.{IsBlack, grays_outside}
use Rattle.barriers.specs.Pending.{pending}
use Rattle.barriers.specs.WeakPoint.{WeakPoint, left_of}
use Rattle.barriers.specs.Scans.{AreScannedOnce}
use Rattle.barriers.specs.Invariant.{InvariantWhile, MarkingInvariant}
use Rattle.barriers.specs.Spreading.{Covers, Spreads}

-- what following all woken cells asks: edges are counted in this ledger, exactly the arenas that are handed to sweeping
-- are in flight, and the marking invariant holds but for the woken cells
pub record MayDrain (ledger : ℕ) (h : HeapState) (flown : ℕ → Option Bits) (p : Piles) : Type 0 where
  pub counted : h.ledger ≡ Some ledger
  pub covers : Covers h.shape flown
  pub holds : InvariantWhile [] (joined h flown) (pending h p)
  pub weak : WeakPoint (joined h flown) (pending h p) (left_of (joined h flown))
  pub once : AreScannedOnce (joined h flown) (pending h p)

-- all woken cells were followed: black grew to what black cells reach, which reads at most eight edges for each woken
-- cell and for each gray cell outside marking zones that turned black, and the same arenas are in flight
pub record DrainDone {S O : Type 0} (bits_of : S → ℕ → Option Bits) (origin_of : S → O) (h : HeapState) (f : S)
    (p : Piles) (read : ℕ) (k : HeapState) (g : S) (q : Piles) (now : ℕ) : Type 0 where
  pub invariant : MarkingInvariant (joined k (bits_of g)) (pending k q)
  pub spreads : Spreads (Reached h.shape (IsBlack (joined h (bits_of f)))) (joined h (bits_of f)) (pending h p)
      (joined k (bits_of g)) (pending k q)
  pub steps : now + 8 * grays_outside (joined k (bits_of g))
      ≤ read + 8 * (grays_outside (joined h (bits_of f)) + length (pending h p).wake)
  pub covers : Covers k.shape (bits_of g)
  pub origin : origin_of g ≡ origin_of f
