-- The heap: what is in it, and the colours of its cells.
use Rattle.std.specs.Prelude.{◌≡◌, ℕ, suc, List, [], ◌∷◌, Option, Some, None, map, slice_get, slice_set, slice_index_or}
use Rattle.std.specs.Prelude.{replicate}
use Rattle.gz_names.specs.declared.numbers.Place.{Place}
use Rattle.cell_bits.specs.declared.bits.Bits.{Bits}
use Rattle.cell_bits.specs.declared.bits.Colour.{Colour}
use Rattle.cell_bits.specs.declared.bits.Colour.TheVariants as colour
use Rattle.cell_bits.specs.Colours as bits
use Rattle.mark_stack.specs.Stack.{Piles, no_places}
use Rattle.arena_table.specs.Slots.{Arena}
use Rattle.weak_maps.specs.WeakMaps.{LooksState, WeakMapsState, value_of}
use Rattle.weak_refs.specs.WeakNames.{WeakNamesState, no_names}
use Rattle.heap_core.specs.Shape.{Shape}

-- the mark bits of each arena, for each zone the places that wait for its gray marking, how many cells were ever made,
-- in which colour each weak entry is still to be looked at, the places for which piles of the mark stack had no room,
-- what weak slots name and which cells are watched, and the name of the ledger in which the edges that are read are
-- counted, if they are
pub record HeapState : Type 0 where
  pub shape : Shape
  pub colours : List Bits
  pub buffers : List (List Place)
  pub made : ℕ
  pub looks : LooksState
  pub delayed : Piles
  pub weak_names : WeakNamesState
  pub ledger : Option ℕ

-- the weak entries, and which of them are still to be looked at
abbrev pub weak_of : HeapState → WeakMapsState
weak_of h = record { table = h.shape.weak; looks = h.looks }

abbrev pub bits_of : List Arena → List Bits
bits_of arenas = map (λ (arena : Arena). arena.bits) arenas

abbrev pub colour_in : Option Bits → ℕ → Colour
colour_in None slot = colour.White
colour_in (Some b) slot = bits.colour_of b slot

-- the colour of a place, by the bits of the arenas
abbrev pub colour_of : HeapState → Place → Colour
colour_of h p = colour_in (slice_get h.colours p.0) p.1

-- the bits of an arena: those in flight, if it is out, else its own
abbrev pub flown_or : Option Bits → Bits → Bits
flown_or None own = own
flown_or (Some flown) own = flown

-- the bits of the arenas from number n on
abbrev pub with_flown : (ℕ → Option Bits) → ℕ → List Bits → List Bits
with_flown flown n [] = []
with_flown flown n (own ∷ rest) = flown_or (flown n) own ∷ with_flown flown (suc n) rest

-- the heap without delayed cells, where these are told among what is pending
abbrev pub without_delayed : HeapState → HeapState
without_delayed h = record h { delayed = no_places }

-- the heap as marking sees it: the same, with the bits that are in flight in place of its own
abbrev pub joined : HeapState → (ℕ → Option Bits) → HeapState
joined h flown = record h { colours = with_flown flown 0 h.colours; delayed = no_places }

-- the heap with other bits, and other cells delayed: what barriers and marking change
abbrev pub with_marks : HeapState → List Bits → Piles → HeapState
with_marks h colours delayed = record h { colours = colours; delayed = delayed }

-- a register holds this
abbrev pub with_reg : HeapState → ℕ → Option Place → HeapState
with_reg h r v = record h { shape = record h.shape { regs = slice_set h.shape.regs r v } }

-- a gray slot holds this
abbrev pub with_slot : HeapState → ℕ → Option Place → HeapState
with_slot h g v = record h { shape = record h.shape { slots = slice_set h.shape.slots g v } }

-- what a register holds, and what a gray slot holds
abbrev pub reg_of : HeapState → ℕ → Option Place
reg_of h r = slice_index_or h.shape.regs r None

abbrev pub slot_of : HeapState → ℕ → Option Place
slot_of h g = slice_index_or h.shape.slots g None

-- nothing is in the heap
pub record IsEmpty (h : HeapState) : Type 0 where
  pub arenas : h.shape.arenas ≡ []
  pub states : h.shape.states ≡ []
  pub comps : h.shape.comps ≡ []
  pub wrappers : h.shape.wrappers ≡ record { lists = replicate 64 [] }
  pub entries : (m k : Place) → value_of h.shape.weak m k ≡ None
  pub regs : h.shape.regs ≡ replicate 16 None
  pub slots : h.shape.slots ≡ replicate 64 None
  pub objects : h.shape.objects ≡ 0
  pub colours : h.colours ≡ []
  pub buffers : h.buffers ≡ replicate 64 []
  pub made : h.made ≡ 0
  pub looks : h.looks ≡ record { by_map = []; by_key = []; by_delegate = [] }
  pub delayed : h.delayed ≡ no_places
  pub weak_names : h.weak_names ≡ no_names
  pub ledger : h.ledger ≡ None
