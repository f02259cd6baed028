-- A mark bit of a cell is set in the heap.
use Rattle.std.specs.Prelude.{◌≡◌, ◌≢◌, ◌<◌, ◌==◌, ℕ, Some, slice_get, slice_set, if◌then◌else◌}
use Rattle.std.specs.Int.{bit_at}
use Rattle.gz_names.specs.declared.numbers.Place.{Place}
use Rattle.cell_bits.specs.declared.bits.Bits.{Bits}
use Rattle.cell_bits.specs.declared.bits.Colour.TheVariants as colour
use Rattle.cell_bits.specs.Colours as bits
use Rattle.cell_bits.specs.Colours.{Marks}
use Rattle.heap_core.specs.Heap.{HeapState}

-- the black bit of one slot was set, and no other bit
pub record SetsBlack (b : Bits) (k : ℕ) (d : Bits) : Type 0 where
  pub within : k < 64
  pub was : bit_at b.black k ≢ 1
  pub black : (s : ℕ) → bit_at d.black s ≡ (if s == k then 1 else bit_at b.black s)
  pub gob : d.gob ≡ b.gob

-- a white slot is gray now, and no other slot changed: no gray bit of a black one either
pub record SetsGray (b : Bits) (k : ℕ) (d : Bits) : Type 0 where
  pub within : k < 64
  pub white : bits.colour_of b k ≡ colour.White
  pub black : d.black ≡ b.black
  pub gob : (s : ℕ) → bit_at d.gob s ≡ (if s == k then 1 else bit_at b.gob s)
  pub marks : Marks b k colour.Gray d

-- the black bit of a cell was set in its arena's bits
pub record TakesBlack (old : HeapState) (x : Place) (new : HeapState) : Type 0 where
  pub before : Bits
  pub after : Bits
  pub found : slice_get old.colours x.0 ≡ Some before
  pub sets : SetsBlack before x.1 after
  pub new_is : new ≡ record old { colours = slice_set old.colours x.0 after }

-- a white cell turned gray in its arena's bits
pub record TakesGray (old : HeapState) (x : Place) (new : HeapState) : Type 0 where
  pub before : Bits
  pub after : Bits
  pub found : slice_get old.colours x.0 ≡ Some before
  pub sets : SetsGray before x.1 after
  pub new_is : new ≡ record old { colours = slice_set old.colours x.0 after }
