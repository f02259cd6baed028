-- Whose the arenas are, and which cells lie in them.
use Rattle.std.specs.Prelude.{◌≡◌, ℕ, List, Bool, Option, Some, reverse}
use Rattle.std.specs.FinMap as map
use Rattle.gz_names.specs.declared.names.Name.{Name}
use Rattle.gz_names.specs.declared.numbers.Place.{Place}
use Rattle.colour_defs.specs.World.{World}
use Rattle.judge.specs.Places.{IsEmpty}
use Rattle.judge.specs.Slots.{flags_of, owners_of}
use Rattle.judge.specs.declared.arenas.Arenas.{Arenas}

abbrev pub owners_in : Arenas → List (Option ℕ)
owners_in a = owners_of a.arenas.items

abbrev pub flags_in : Arenas → List Bool
flags_in a = flags_of a.arenas.items

-- each arena is of the zone of which it was, and the same ones are out
pub record AreSameArenas (old new : Arenas) : Type 0 where
  pub owners : owners_in new ≡ owners_in old
  pub out : new.out.items ≡ old.out.items

-- beside that each cell lies where it lay
pub record AreSameSlots (old new : Arenas) : Type 0 where
  pub arenas : AreSameArenas old new
  pub flags : flags_in new ≡ flags_in old
  pub lying : new.lying ≡ old.lying

-- a world of the definitions in which the arenas are the same, and the same places are empty
pub record HasSlots (a : Arenas) (w : World) : Type 0 where
  pub owners_are : w.owner ≡ owners_in a
  pub out_is : w.out ≡ reverse a.out.items
  pub empty : (p : Place) → IsEmpty a.lying p → (x : Name) → map.get w.places x ≡ Some p → ⊥
  pub taken : (p : Place) → (IsEmpty a.lying p → ⊥) → ((x : Name) → map.get w.places x ≡ Some p → ⊥) → ⊥
