-- Cells that are delayed for a pile of the mark stack, a mask an arena.
use Rattle.std.specs.Prelude.{◌≡◌, ◌≢◌, ◌≤◌, ◌*◌, ◌↔◌, ◌++◌, ℕ, suc, List, [], ◌∷◌, length, map, slice_index}
use Rattle.std.specs.List.{range_with_len}
use Rattle.gz_names.specs.declared.numbers.Place.{Place}
use Rattle.mark_stack.specs.Stack.{Piles}
use Rattle.arena_table.specs.Sets.{arena_bit}
use Rattle.arena_table.specs.Slots.{at_bits}

-- the places of an arena
abbrev pub places_of : ℕ → List Place
places_of arena = map (λ (slot : ℕ). (arena, slot)) (range_with_len 0 64)

-- the places at the bits of the masks of arenas, of which the first has the number n
abbrev pub places_from : ℕ → List ℕ → List Place
places_from n [] = []
places_from n (mask ∷ masks) = at_bits mask (places_of n) ++ places_from (suc n) masks

-- the places of a set of cells, ascending, and for the cells of how many arenas there is memory
pub record CellSetState : Type 0 where
  pub places : List Place
  pub room : ℕ

-- what always holds: the arenas are those whose mask is not 0
pub record AreCells (masks arenas : List ℕ) (count : ℕ) : Type 0 where
  pub few : length masks ≤ 67108863
  pub room : length masks ≤ 64 * length arenas
  pub marked : (a : ℕ) → (arena_bit arenas a ≡ 1) ↔ (slice_index masks a ≢ 0)
  pub counted : count ≡ length (places_from 0 masks)

-- masks that are 0 were put at the end
pub record ArePadded (old new : List ℕ) : Type 0 where
  pub masks : (a : ℕ) → slice_index new a ≡ slice_index old a
  pub places : places_from 0 new ≡ places_from 0 old
  pub kept : length old ≤ length new

-- a set a pile
pub record DelayedSets : Type 0 where
  pub black : CellSetState
  pub gray : CellSetState
  pub wake : CellSetState

-- the places that are delayed for each pile
abbrev pub delayed_of : DelayedSets → Piles
delayed_of sets = record { black = sets.black.places; gray = sets.gray.places; wake = sets.wake.places }

-- each set has memory for the cells of this number of arenas
pub record AreCovered (sets : DelayedSets) (arenas : ℕ) : Type 0 where
  pub black : arenas ≤ sets.black.room
  pub gray : arenas ≤ sets.gray.room
  pub wake : arenas ≤ sets.wake.room

-- each set has memory for as many arenas as before
abbrev pub IsAsRoomy : DelayedSets → DelayedSets → Type 0
IsAsRoomy old new = (arenas : ℕ) → AreCovered old arenas → AreCovered new arenas
