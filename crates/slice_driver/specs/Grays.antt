-- The names of the gray cells, in the order of their places.
use Rattle.std.specs.Prelude.{◌≡◌, ◌++◌, ℕ, zero, suc, Bool, true, false, List, [], ◌∷◌, Option, Some, None}
use Rattle.std.specs.Prelude.{◌<◌, length, if◌then◌else◌}
use Rattle.gz_names.specs.declared.names.Name.{Name}
use Rattle.gz_names.specs.declared.numbers.Place.{Place}
use Rattle.cell_bits.specs.declared.bits.Bits.{Bits}
use Rattle.cell_bits.specs.declared.bits.Colour.{Colour}
use Rattle.cell_bits.specs.declared.bits.Colour.TheVariants as colour
use Rattle.heap_core.specs.Shape.{IsPresent, name_at}
use Rattle.heap_core.specs.Heap.{HeapState, colour_of, joined}
use Rattle.barriers.specs.Colours.{IsGray}
use Rattle.barriers.specs.Spreading.{Covers}

abbrev pub is_gray_colour : Colour → Bool
is_gray_colour colour.White = false
is_gray_colour colour.Gray = true
is_gray_colour colour.Black = false

-- a name, if there is one
abbrev pub names_in : Option Name → List Name
names_in None = []
names_in (Some x) = x ∷ []

-- the name of the cell at a place, if it is gray
abbrev pub gray_name : HeapState → Place → List Name
gray_name h p = if is_gray_colour (colour_of h p) then names_in (name_at h.shape p) else []

-- the names of the gray cells of an arena, below a slot
abbrev pub grays_below : HeapState → ℕ → ℕ → List Name
grays_below h a zero = []
grays_below h a (suc slot) = grays_below h a slot ++ gray_name h (a, slot)

-- the names of the gray cells of the arenas that pass a test, below a number
abbrev pub grays_up_to : HeapState → (ℕ → Bool) → ℕ → List Name
grays_up_to h test zero = []
grays_up_to h test (suc a) = grays_up_to h test a ++ (if test a then grays_below h a 64 else [])

-- the name of a gray cell in an arena that passes a test
pub record IsGrayIn (h : HeapState) (test : ℕ → Bool) (x : Name) : Type 0 where
  pub place : Place
  pub named : name_at h.shape place ≡ Some x
  pub here : test place.0 ≡ true
  pub gray : IsGray h place

-- what naming the gray cells of an arena asks: exactly the arenas that are handed to sweeping are in flight, the arena
-- is
-- made, and gray cells are present
pub record MayNameGrays (h : HeapState) (flown : ℕ → Option Bits) (arena : ℕ) : Type 0 where
  pub covers : Covers h.shape flown
  pub made : arena < length h.colours
  pub present : (p : Place) → IsGray (joined h flown) p → IsPresent h.shape p
