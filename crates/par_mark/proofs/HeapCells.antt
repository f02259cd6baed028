-- Where the cells of a heap are.
use Rattle.std.proofs.Common.{ℕ, ◌<◌, length}
use Rattle.heap_core.specs.Shape.{HasEdge, IsPresent, field_at, zone_of}
use Rattle.heap_core.specs.Heap.{HeapState}
use Rattle.mark_ahead.specs.Edges.{Leads}
use Rattle.par_mark.specs.Heaps.{HasCell}
use Rattle.mark_ahead.proofs.PresentCells.{present_inside}

-- a present cell lies in an arena that was made, in one of its 64 slots
pub inside : (h : HeapState) (p : ℕ × ℕ) → HasCell h p → (p.0 < length h.shape.arenas) × (p.1 < 64)
inside h p has = present_inside h.shape p has.whole has.present

-- edges lead to cells, where present cells lie in zones that were made and name present cells
pub leads_on : (h : HeapState) → ((x : ℕ × ℕ) → IsPresent h.shape x → zone_of h.shape x < length h.shape.states)
    → ((x y : ℕ × ℕ) → HasEdge h.shape x y → IsPresent h.shape y) → (p q : ℕ × ℕ) → HasCell h p
    → Leads (field_at h.shape) p q → HasCell h q
leads_on h made targets p q has l =
    let y = targets p q l in
    record { present = y; zone = made q y; whole = has.whole; uncounted = has.uncounted }
