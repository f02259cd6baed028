-- Colours by the two words of bits.
use Rattle.std.specs.Prelude.{◌≡◌, ℕ, ◌==◌, Bool, Option, if◌then◌else◌, bit_and, bit_or}
use Rattle.std.specs.Option.{option_map}
use Rattle.std.specs.Int.{bit_at, bit_not, w64}
use Rattle.cell_bits.specs.declared.bits.Bits.{Bits}
use Rattle.cell_bits.specs.declared.bits.Colour.{Colour}
use Rattle.cell_bits.specs.declared.bits.Colour.TheVariants.{White, Gray, Black}

-- black where BlackBit is set, else gray where the other bit is, else white
abbrev pub colour_of : Bits → ℕ → Colour
colour_of b slot = if bit_at b.black slot == 1 then Black else (if bit_at b.gob slot == 1 then Gray else White)

-- the allocated slots with neither bit
abbrev pub white_mask_of : Bits → ℕ → ℕ
white_mask_of b alloc_word = bit_and alloc_word (bit_not w64 (bit_or b.black b.gob))

-- one cell has this colour now, and all others have their old one
pub record Marks (old : Bits) (slot : ℕ) (colour : Colour) (new : Bits) : Type 0 where
  pub marked : colour_of new slot ≡ colour
  pub others : (s : ℕ) → (s ≡ slot → ⊥) → colour_of new s ≡ colour_of old s

-- the bits of an arena after a wake: those of the mask are black, where the arena is the one that was woken
abbrev pub woken_bits : Bool → ℕ → Option Bits → Option Bits
woken_bits hit mask bits = if hit then option_map {T = Bits} (λ (b : Bits). record b { black = bit_or b.black mask })
    bits else bits

abbrev pub unit : Unit {0}
unit = tt
