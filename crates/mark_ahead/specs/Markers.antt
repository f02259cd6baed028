-- A function that marks a heap black.
use Rattle.std.specs.Prelude.{◌≡◌, ◌<◌, ℕ, List, Result, None, All, IfOk, Vec, length}
use Rattle.std.specs.Borrow.{Bor}
use Rattle.std.specs.declared.alloc.AllocError.{AllocError}
use Rattle.std.specs.declared.alloc.Global.{Global}
use Rattle.gz_names.specs.declared.numbers.Place.{Place}
use Rattle.heap_core.specs.Heap.{HeapState}
use Rattle.heap_core.specs.Shape.{AreWhole, HasEdge, IsPresent, field_at, is_marking, zone_of}
use Rattle.mark_ahead.specs.Blackening.{HasFound}
use Rattle.mark_ahead.specs.declared.blackening.Marked.{Marked}

-- a heap may be marked black from these cells, which are present, with these black words of the arenas
pub record MayBeMarked (h : HeapState) (from : List Place) (first : List ℕ) : Type 0 where
  pub uncounted : h.ledger ≡ None
  pub present : All (IsPresent h.shape) from
  pub made : (x : Place) → IsPresent h.shape x → zone_of h.shape x < length h.shape.states
  pub targets : (x y : Place) → HasEdge h.shape x y → IsPresent h.shape y
  pub whole : AreWhole h.shape.arenas
  pub words : length first ≡ length h.shape.arenas

-- what marking a heap found: the cells that turned black are listed if the heap has weak entries
abbrev pub HasFoundIn : HeapState → List ℕ → List Place → List ℕ → Marked → Type 0
HasFoundIn h first from last marked = HasFound (field_at h.shape) (is_marking h.shape) first from
    (0 < length h.shape.weak.entries) last marked.won.items marked.outside.items

-- a function may be called with each such heap, and marks it black: it takes the black word of each arena, and answers
-- them as marking leaves them, with what it found
pub record MarksBlack (pre : Global → Bor HeapState → Bor (List Place) → Vec ℕ Global → Type 0)
    (post : Global → Bor HeapState → Bor (List Place) → Vec ℕ Global → Result (Vec ℕ Global × Marked) AllocError
    → Type 0) : Type 0 where
  pub callable : (alloc : Global) (heap : Bor HeapState) (from : Bor (List Place)) (words : Vec ℕ Global)
      → MayBeMarked heap.now from.now words.items → pre alloc heap from words
  pub blackens : (alloc : Global) (heap : Bor HeapState) (from : Bor (List Place)) (words : Vec ℕ Global)
      (found : Result (Vec ℕ Global × Marked) AllocError) → MayBeMarked heap.now from.now words.items
      → post alloc heap from words found
      → IfOk found (λ r. HasFoundIn heap.now words.items from.now r.0.items r.1)
