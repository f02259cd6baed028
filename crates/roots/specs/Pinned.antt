-- Pinned roots: registers behind the sixteenth.
use Rattle.std.specs.Prelude.{◌≡◌, ◌≢◌, ◌+◌, ℕ, Option, Some, None, slice_index_or}
use Rattle.gz_names.specs.declared.numbers.Place.{Place}
use Rattle.roots.specs.RootsHeld.{RootsState}

-- what a register holds, of all that there are
abbrev pub held_at : RootsState → ℕ → Option Place
held_at roots n = slice_index_or roots.regs n None

-- what a pinned root holds
abbrev pub pinned_in : RootsState → ℕ → Option Place
pinned_in roots root = held_at roots (16 + root)

-- a pinned root that held nothing holds this place, and nothing else changed
pub record Pins (old : RootsState) (p : Place) (root : ℕ) (new : RootsState) : Type 0 where
  pub rest : new ≡ record old { regs = new.regs }
  pub free : pinned_in old root ≡ None
  pub held : pinned_in new root ≡ Some p
  pub others : (n : ℕ) → n ≢ 16 + root → held_at new n ≡ held_at old n
