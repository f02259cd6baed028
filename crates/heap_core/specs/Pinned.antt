-- Pinned roots: registers behind the sixteenth.
use Rattle.std.specs.Prelude.{◌≡◌, ◌≢◌, ◌+◌, ℕ, Option, Some, None}
use Rattle.gz_names.specs.declared.numbers.Place.{Place}
use Rattle.heap_core.specs.Heap.{HeapState, reg_of}

-- what a pinned root holds
abbrev pub pinned_of : HeapState → ℕ → Option Place
pinned_of h root = reg_of h (16 + root)

-- a pinned root that held nothing holds this cell, and nothing else changed
pub record Pins (old : HeapState) (p : Place) (root : ℕ) (new : HeapState) : Type 0 where
  pub rest : new ≡ record old { shape = record old.shape { regs = new.shape.regs } }
  pub free : pinned_of old root ≡ None
  pub held : pinned_of new root ≡ Some p
  pub others : (n : ℕ) → n ≢ 16 + root → reg_of new n ≡ reg_of old n
