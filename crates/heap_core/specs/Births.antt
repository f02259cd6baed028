-- The colour of a new cell in its arena's bits.
use Rattle.std.specs.Prelude.{◌≡◌, Bool, IfSome, if◌then◌else◌, slice_get}
use Rattle.gz_names.specs.declared.numbers.Place.{Place}
use Rattle.cell_bits.specs.declared.bits.Bits.{Bits}
use Rattle.cell_bits.specs.declared.bits.Colour.TheVariants.{Black}
use Rattle.cell_bits.specs.Colours.{Marks, colour_of}
use Rattle.arena_table.specs.Slots.{change_at, with_bits}
use Rattle.arena_table.specs.Table.{ArenasState}

-- the cell of a slot is black, or, if its zone is being prepared, has the colour of the slot's bits
pub record ColoursAtBirth (is_prepared : Bool) (old : ArenasState) (p : Place) (new : ArenasState) : Type 0 where
  pub bits : Bits
  pub new_is : new ≡ record old { arenas = change_at (with_bits bits) old.arenas p.0 }
  pub marks : IfSome (slice_get old.arenas p.0)
      (λ a. Marks a.bits p.1 (if is_prepared then colour_of a.bits p.1 else Black) bits)
