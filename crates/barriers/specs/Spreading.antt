-- What a step of black marking does.
use Rattle.std.specs.Prelude.{◌≡◌, ◌≢◌, ◌⊎◌, ◌≤◌, ◌+◌, ℕ, true, false, length, Contains, is_some, Option, if◌then◌else◌}
use Rattle.gz_names.specs.declared.numbers.Place.{Place}
use Rattle.cell_bits.specs.declared.bits.Bits.{Bits}
use Rattle.mark_stack.specs.Stack.{Piles, IsPushed}
use Rattle.mark_stack.specs.declared.stack.Pile.TheVariants as pile
use Rattle.heap_core.specs.Shape.{Shape, IsPresent, is_marking, out_of}
use Rattle.heap_core.specs.Heap.{HeapState, colour_of, joined}
use Rattle.barriers.specs.Colours.{IsBlack, gobs, left, whites, grays_outside}
use Rattle.barriers.specs.Pending.{pending}
use Rattle.barriers.specs.Invariant.{ColourInvariant, PileInvariant}
use Rattle.barriers.specs.Scans.{ScansNoMore}

-- exactly the arenas that are handed to sweeping are in flight
abbrev pub Covers : Shape → (ℕ → Option Bits) → Type 0
Covers s flown = (a : ℕ) → is_some (flown a) ≡ is_some (out_of s a)

-- colours were looked at: with the bits in flight the heap is as it was, the same arenas are in flight, and they come
-- from where they came from
pub record FlightKept {S O : Type 0} (bits_of : S → ℕ → Option Bits) (origin_of : S → O) (h : HeapState) (f g : S)
    : Type 0 where
  pub same : joined h (bits_of g) ≡ joined h (bits_of f)
  pub covers : Covers h.shape (bits_of g)
  pub origin : origin_of g ≡ origin_of f

-- what marking a cell asks of the heap, the flight and the mark stack, whichever cell it is
pub record MayMark (h : HeapState) (flown : ℕ → Option Bits) (p : Piles) : Type 0 where
  pub covers : Covers h.shape flown
  pub colours : ColourInvariant (joined h flown)
  pub piles : PileInvariant (joined h flown) (pending h p)

-- a cell turned black, and nothing else changed: no gray bit either
pub record Blackened (h : HeapState) (x : Place) (k : HeapState) : Type 0 where
  pub rest : k ≡ record h { colours = k.colours }
  pub sized : length k.colours ≡ length h.colours
  pub present : IsPresent h.shape x
  pub was : IsBlack h x → ⊥
  pub black : IsBlack k x
  pub gobs_is : gobs k ≡ gobs h
  pub others : (y : Place) → y ≢ x → colour_of k y ≡ colour_of h y
  pub left_is : left k + 1 ≡ left h
  pub whites_less : whites k ≤ whites h
  pub grays_is : grays_outside k + (if is_marking h.shape x then 0 else 1) ≡ grays_outside h

-- a cell is black now: if it was not, it is pending on the pile of its zone
abbrev pub Turns : HeapState → Piles → Place → HeapState → Piles → Type 0
Turns h p x k q =
    (IsBlack h x × (k ≡ h) × (q ≡ p))
    ⊎ ((Blackened h x k × (is_marking h.shape x ≡ true) × IsPushed p pile.Black x q)
    ⊎ (Blackened h x k × (is_marking h.shape x ≡ false) × IsPushed p pile.Wake x q))

-- black spread to cells that meet P alone, and nothing else changed: no cell lost its black bit, and the gray bits are
-- as they were
pub record Blackens (P : Place → Type 0) (h k : HeapState) : Type 0 where
  pub rest : k ≡ record h { colours = k.colours }
  pub sized : length k.colours ≡ length h.colours
  pub kept : (y : Place) → IsBlack h y → IsBlack k y
  pub gobs_is : gobs k ≡ gobs h
  pub only : (y : Place) → IsBlack k y → IsBlack h y ⊎ P y
  pub others : (y : Place) → IsBlack k y ⊎ (colour_of k y ≡ colour_of h y)
  pub whites_less : whites k ≤ whites h

-- black spread, and the piles know it: in marking zones what turned black is on the black pile, and no work came up;
-- nor may any cell be scanned more often
pub record Spreads (P : Place → Type 0) (h : HeapState) (p : Piles) (k : HeapState) (q : Piles) : Type 0 where
  pub blackens : Blackens P h k
  pub gray_is : q.gray ≡ p.gray
  pub pile_kept : (y : Place) → Contains p.black y → Contains q.black y
  pub fresh : (y : Place) → IsBlack k y → is_marking h.shape y ≡ true → IsBlack h y ⊎ Contains q.black y
  pub left_less : left k ≤ left h
  pub work : left k + (length q.black + length q.wake) ≤ left h + (length p.black + length p.wake)
  pub grays : grays_outside k + length q.wake ≤ grays_outside h + length p.wake
  pub scans : ScansNoMore h p k q

-- black spread, and no woken cell was taken from its pile
pub record Grows (P : Place → Type 0) (h : HeapState) (p : Piles) (k : HeapState) (q : Piles) : Type 0 where
  pub spreads : Spreads P h p k q
  pub wake_kept : (y : Place) → Contains p.wake y → Contains q.wake y
  pub woken : (y : Place) → IsBlack k y → is_marking h.shape y ≡ false → IsBlack h y ⊎ Contains q.wake y
