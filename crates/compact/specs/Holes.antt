-- The free slots of a zone's arenas, as a walk finds them.
use Rattle.std.specs.Prelude.{◌≡◌, ◌≢◌, ◌⊎◌, ◌↔◌, ◌<◌, ◌≤◌, ◌+◌, ◌^◌, ℕ, suc, None, count_ones, length, nat_le, take}
use Rattle.std.specs.Prelude.{if◌then◌else◌}
use Rattle.std.specs.Int.{bit_at}
use Rattle.gz_names.specs.Moves.{IsBefore}
use Rattle.gz_names.specs.declared.numbers.Place.{Place}
use Rattle.heap_core.specs.Shape.{Shape, cell_of, zone_of}
use Rattle.compact.specs.Packing.{free_below}
use Rattle.compact.specs.declared.holes.Holes.{Holes}

-- a free slot of an arena of the zone
pub record IsFree (s : Shape) (zone : ℕ) (p : Place) : Type 0 where
  pub made : p.0 < length s.arenas
  pub zone_is : zone_of s p ≡ zone
  pub slot : p.1 < 64
  pub free : cell_of s p ≡ None

-- a walk has it still ahead: in an arena to which it has not come, or among what is left of its arena
abbrev pub IsAhead : Holes → Place → Type 0
IsAhead h p = (h.from ≤ p.0) ⊎ ((suc p.0 ≡ h.from) × (bit_at h.left p.1 ≡ 1))

-- what is left of its arena is free
pub record IsAt (s : Shape) (h : Holes) : Type 0 where
  pub free : (p : Place) → suc p.0 ≡ h.from → bit_at h.left p.1 ≡ 1 → IsFree s h.zone p
  pub begun : h.left ≢ 0 → 0 < h.from
  pub fits : h.left < 2 ^ 64

-- it has come nowhere yet
pub record IsBegun (h : Holes) : Type 0 where
  pub from : h.from ≡ 0
  pub left : h.left ≡ 0

-- this many free slots below an arena were found, and all that the walk has passed
abbrev pub IsCounted : Shape → Holes → ℕ → ℕ → Type 0
IsCounted s h first count = count + (if nat_le h.from first then count_ones h.left else 0)
    ≡ free_below h.zone first 0 (take h.from s.arenas)

-- the walk came on, and what was ahead still is
pub record ComesOn (s : Shape) (old new : Holes) : Type 0 where
  pub at : IsAt s new
  pub same : (p : Place) → IsFree s old.zone p → IsAhead new p ↔ IsAhead old p
  pub zone_is : new.zone ≡ old.zone
  pub counted : (first count : ℕ) → IsCounted s old first count → IsCounted s new first count

-- the lowest free slot that was ahead was found, and is not ahead any more
pub record Finds (s : Shape) (old : Holes) (p : Place) (new : Holes) : Type 0 where
  pub free : IsFree s old.zone p
  pub ahead : IsAhead old p
  pub lowest : (q : Place) → IsFree s old.zone q → IsAhead old q → (q ≡ p) ⊎ IsBefore p q
  pub left : (q : Place) → IsFree s old.zone q → IsAhead new q ↔ (IsAhead old q × (q ≢ p))
  pub at : IsAt s new
  pub zone_is : new.zone ≡ old.zone
  pub counted : (first count : ℕ) → p.0 < first → IsCounted s old first count → IsCounted s new first (count + 1)
  pub past : (first count : ℕ) → first ≤ p.0 → IsCounted s old first count
      → count ≡ free_below old.zone first 0 s.arenas

-- no free slot is ahead
abbrev pub FindsNone : Shape → Holes → Type 0
FindsNone s h = (first count : ℕ) → IsCounted s h first count → count ≡ free_below h.zone first 0 s.arenas
