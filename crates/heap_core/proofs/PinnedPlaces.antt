-- What the roots do to a pinned root, as the heap sees it.
use Rattle.std.proofs.Common.{ℕ, IfOk, Result, Ok, Err, ap}
use Rattle.gz_names.specs.declared.numbers.Place.{Place}
use Rattle.roots.specs.Pinned as roots
use Rattle.roots.specs.RootsHeld.{RootsState}
use Rattle.heap_core.specs.Heap.{HeapState}
use Rattle.heap_core.specs.Pinned.{Pins}

abbrev with_roots : HeapState → RootsState → HeapState
with_roots h held =
    record h { shape = record h.shape { regs = held.regs; slots = held.slots }; buffers = held.buffers }

pub pins-seen : {E : Type 0} (h : HeapState) (old new : RootsState) (p : Place) (result : Result ℕ E)
    → IfOk result (λ root. roots.Pins old p root new)
    → IfOk result (λ root. Pins (with_roots h old) p root (with_roots h new))
pins-seen h old new p (Ok root) pins = record {
  rest = ap (with_roots h) pins.rest;
  free = pins.free;
  held = pins.held;
  others = pins.others;
}
pins-seen h old new p (Err why) pins = tt
