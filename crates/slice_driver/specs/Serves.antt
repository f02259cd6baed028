-- What a command's change of the heap leaves of marking.
use Rattle.std.specs.Prelude.{◌≡◌, ◌≢◌, ◌⊎◌, ◌↔◌, ◌≤◌, ℕ, length, Some, IsSome, slice_get}
use Rattle.gz_names.specs.declared.numbers.Place.{Place}
use Rattle.mark_stack.specs.Stack.{Piles}
use Rattle.gray_lists.specs.Incoming.{Incoming}
use Rattle.heap_core.specs.Shape.{HasEdge, IsPresent, out_of, state_in, zone_of}
use Rattle.heap_core.specs.Heap.{HeapState}
use Rattle.barriers.specs.Reached.{HasEntry}
use Rattle.barriers.specs.Colours.{IsBlack}
use Rattle.barriers.specs.Invariant.{MarkingInvariant}
use Rattle.barriers.specs.PendingBlack.{PendingBlack}
use Rattle.barriers.specs.PendingLive.{PendingLive, GrayInvariant}

-- a cell is present that was not
abbrev pub IsNew : HeapState → HeapState → Place → Type 0
IsNew h k p = IsPresent k.shape p × (IsPresent h.shape p → ⊥)

-- the invariants hold afterwards; zones, compartments and arenas are as they were, but that some may be added; black
-- cells stay black, and of those that were there no other is black; both pending closures gain the new cell alone; and
-- edges and entries go only where they led to black, and the key of a new entry is black
pub record Serves (h k : HeapState) (s : Piles) (lists : Incoming) : Type 0 where
  pub marks : MarkingInvariant k s
  pub gray : GrayInvariant k s lists
  pub states : (z : ℕ) → state_in k.shape z ≡ state_in h.shape z
  pub buffers : k.buffers ≡ h.buffers
  pub made : length h.shape.states ≤ length k.shape.states
  pub comps : (n z : ℕ) → slice_get h.shape.comps n ≡ Some z → slice_get k.shape.comps n ≡ Some z
  pub outs : (a : ℕ) → out_of k.shape a ≡ out_of h.shape a
  pub zones : (p : Place) → IsPresent h.shape p → zone_of k.shape p ≡ zone_of h.shape p
  pub zones_out : (p : Place) → IsSome (out_of h.shape p.0) → zone_of k.shape p ≡ zone_of h.shape p
  pub there : (p : Place) → IsPresent h.shape p → IsPresent k.shape p
  pub darker : (p : Place) → IsBlack h p → IsBlack k p
  pub same_black : (p : Place) → IsPresent h.shape p → IsBlack k p → IsBlack h p
  pub pending_black : (p : Place) → PendingBlack k s p ↔ (PendingBlack h s p ⊎ IsNew h k p)
  pub pending_live : (p : Place) → PendingLive k s lists p ↔ (PendingLive h s lists p ⊎ IsNew h k p)
  pub edges_then : (p q : Place) → HasEdge h.shape p q → HasEdge k.shape p q ⊎ IsBlack h q
  pub entries_then : (m q v : Place) → HasEntry h.shape m q v → HasEntry k.shape m q v ⊎ IsBlack h v
  pub keys : (m q v : Place) → HasEntry k.shape m q v → ((u : Place) × HasEntry h.shape m q u) ⊎ IsBlack k q
  pub across : (p q : Place) → HasEdge k.shape p q → zone_of k.shape p ≢ zone_of k.shape q → HasEdge h.shape p q
      ⊎ IsBlack k q
